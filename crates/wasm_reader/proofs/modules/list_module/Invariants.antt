use Rattle.wasm_reader.proofs.Common.{length, ahead, HasListed}
use Rattle.wasm_reader.proofs.modules.list_module.Given as goal

abbrev pub invariant-loop-lines : goal.invariant-loop-lines
invariant-loop-lines g l = HasListed (ahead l.initial.sections) l.lines.items (ahead l.sections)

abbrev pub decreases-loop-lines : goal.decreases-loop-lines
decreases-loop-lines g l = length (ahead l.sections)
