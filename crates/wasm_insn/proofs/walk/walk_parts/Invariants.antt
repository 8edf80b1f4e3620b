use Rattle.wasm_insn.proofs.WalkInstructions.{HasWalkedArguments}
use Rattle.wasm_insn.proofs.walk.walk_parts.Given as goal

abbrev pub invariant-loop-part : goal.invariant-loop-part
invariant-loop-part g l = HasWalkedArguments g.E.Effect.seen g.G.Grammar.grammar l.wanted l.part-index l.bytes l.rest l.initial.effect l.effect
