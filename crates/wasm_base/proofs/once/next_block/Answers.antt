use Rattle.wasm_base.proofs.Std.{◌≡◌, ◌<◌, ◌+◌, ◌∷◌, [], ◌++◌, length, take, slice_set, sym, subst, arith, rules, length-take, Yields, common_steps}
use Rattle.wasm_base.proofs.Yielded.{one_more, Yields-push}
use Rattle.wasm_base.proofs.once.next_block.Goals as goal

pub unwrap-requires : goal.unwrap-requires
unwrap-requires g c =
    let few : length (take c.loop-i.i c.loop-i.block) < 16 = omega (arith, c.loop-i.invariant.places, c.loop-i-test.true, length-take c.loop-i.i c.loop-i.block) in
    one_more g.I.Iterator.next_gives c.args.items.now _ c.loop-i.items c.next.new.self c.next.result 16 c.loop-i.invariant.so_far c.next.ensures.steps c.requires.many few

pub loop-i-preserved : goal.loop-i-preserved
loop-i-preserved g c =
    let gives = g.I.Iterator.next_gives in
    let i = c.loop-i.i in
    let block = c.loop-i.block in
    let step = subst (λ r. gives c.loop-i.items r c.next.new.self) c.unwrap.ensures c.next.ensures.steps in
    let taken : take (i + 1) (slice_set block i c.unwrap.result) ≡ take i block ++ c.unwrap.result ∷ [] = grind (arith, common_steps, c.loop-i.invariant.places, c.loop-i-test.true) in
    record {
      can = search rules;
      finite = search rules;
      places = grind (arith, common_steps, c.loop-i.invariant.places);
      so_far = subst (λ ys. Yields gives c.args.items.now ys c.next.new.self) (sym taken) (Yields-push gives c.args.items.now (take i block) c.loop-i.items c.unwrap.result c.next.new.self c.loop-i.invariant.so_far step);
    }
