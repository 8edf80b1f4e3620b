use Rattle.wasm_insn.proofs.Common.{subst, take_all, All-more, All, IsWellFormedWhereAligned}
use Rattle.wasm_insn.proofs.laws.plain_instructions.Goals as goal

pub loop-instruction-preserved : goal.loop-instruction-preserved
loop-instruction-preserved g c =
    All-more (IsWellFormedWhereAligned {A = g.row.A.Denot}) c.args.instructions.now c.loop-instruction.instruction-index c.instruction-item.result c.loop-instruction-test.true c.loop-instruction.invariant
    (subst (IsWellFormedWhereAligned {A = g.row.A.Denot}) c.instruction-item.is c.plain_instruction.ensures)

pub returns : goal.returns
returns g c = subst (All (IsWellFormedWhereAligned {A = g.row.A.Denot})) (take_all c.loop-instruction.instruction-index c.args.instructions.now c.loop-instruction-test.false) c.loop-instruction.invariant
