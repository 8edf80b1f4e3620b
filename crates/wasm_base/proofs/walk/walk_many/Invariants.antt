use Rattle.wasm_base.proofs.WalkLaws.{HasWalked}
use Rattle.wasm_base.proofs.walk.walk_many.Given as goal

abbrev pub invariant-loop-taken : goal.invariant-loop-taken
invariant-loop-taken g l = HasWalked g.E.Effect.seen g.G.Grammar.grammar g.T.Layout.format l.initial.rest l._taken l.rest l.initial.effect l.effect
