use Rattle.wasm_code.proofs.Common.{length}
use Rattle.wasm_code.proofs.WalkBodies.{HasWalkedCode}
use Rattle.wasm_code.proofs.expression.ExpressionWalk.walk.Given as goal

abbrev pub invariant-loop-rest : goal.invariant-loop-rest
invariant-loop-rest g l = HasWalkedCode g.E.Effect.seen g.G.Grammar.grammar l.bytes l.rest l.initial.effect l.effect

abbrev pub decreases-loop-rest : goal.decreases-loop-rest
decreases-loop-rest g l = length l.rest
