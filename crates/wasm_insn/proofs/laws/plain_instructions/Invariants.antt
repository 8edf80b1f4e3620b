use Rattle.wasm_insn.proofs.Common.{take, All, IsWellFormedWhereAligned}
use Rattle.wasm_insn.proofs.laws.plain_instructions.Given as goal

abbrev pub invariant-loop-instruction : goal.invariant-loop-instruction
invariant-loop-instruction g l = All IsWellFormedWhereAligned (take l.instruction-index l.instructions)
