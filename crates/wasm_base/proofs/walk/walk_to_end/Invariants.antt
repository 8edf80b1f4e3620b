use Rattle.wasm_base.proofs.Std.{length}
use Rattle.wasm_base.proofs.WalkLaws.{HasWalkedMembers}
use Rattle.wasm_base.proofs.walk.walk_to_end.Given as goal

abbrev pub invariant-loop-rest : goal.invariant-loop-rest
invariant-loop-rest g l = HasWalkedMembers g.E.Effect.seen g.G.Grammar.grammar g.T.Layout.format l.bytes l.rest l.initial.effect l.effect

abbrev pub decreases-loop-rest : goal.decreases-loop-rest
decreases-loop-rest g l = length l.rest
