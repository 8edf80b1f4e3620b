use Rattle.wasm_remap.proofs.RemovedLaws.{HasKept}
use Rattle.wasm_remap.proofs.remove.remove_flagged.Given as goal

abbrev pub invariant-loop-index : goal.invariant-loop-index
invariant-loop-index g l = HasKept l.flags l.fn.items.items l.items.items l.index l.kept
