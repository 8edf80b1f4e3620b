use Rattle.wasm_base.proofs.Words.{rules, subst, Yields-push, All-last}
use Rattle.wasm_code.proofs.const_expr.encode_each.Goals as goal

pub returns-in_err-encode : goal.returns-in_err-encode
returns-in_err-encode g c = record {
  ok = search rules;
  too_long = λ encodable.
      let gives = g.I.IntoIter.Iterator.next_gives in
      let start = c.into_iter-element-iterator.result in
      let step = subst (λ r. gives c.loop-element.element-iterator r c.next.new.self) c.in-Some.is c.next.ensures.steps in
      let more = Yields-push gives start c.loop-element.yielded c.loop-element.element-iterator c.in-Some.element c.next.new.self c.loop-element.yielded_by step in
      let refused = c.in_err-encode.ensures.appends.too_long (All-last g.T.Encode.encodable c.loop-element.yielded c.in-Some.element (encodable start c.next.new.self _ c.into_iter-element-iterator.ensures.into_iter_gives more)) in
      search (rules, refused);
}
