use Rattle.wasm_base.proofs.Std.{arith, rules, subst, Yields, common_steps}
use Rattle.wasm_base.proofs.Yielded.{Yields-push, All-last}
use Rattle.wasm_base.proofs.once.VecOfEncodeOnce.encode_once.Goals as goal

pub returns-in-Err : goal.returns-in-Err
returns-in-Err g c = record {
  ok = search rules;
  err = grind (arith, common_steps);
  too_long = λ encodable.
      let gives = g.I.Iterator.next_gives in
      let step = subst (λ r. gives c.loop-item.item-iterator r c.next.new.self) c.in-Some.is c.next.ensures.steps in
      let before = subst (λ s. Yields gives s c.loop-item.yielded c.loop-item.item-iterator) c.into_iter-item-iterator.ensures.into_iter_gives c.loop-item.yielded_by in
      let more = Yields-push gives c.args.self.items c.loop-item.yielded c.loop-item.item-iterator c.in-Some.item c.next.new.self before step in
      c.in-Err.ensures.appends.too_long (All-last g.T.Encode.encodable c.loop-item.yielded c.in-Some.item (encodable c.next.new.self _ more));
  capacity = omega (arith, c.in-Err.ensures.appends.capacity);
}
