use Rattle.wasm_base.proofs.Words.{take, All}
use Rattle.wasm_insn.proofs.ranged.each_ranged.Given as goal

abbrev pub invariant-loop-item : goal.invariant-loop-item
invariant-loop-item g l = All g.T.Ranged.in_range (take l.item-index l.items)
