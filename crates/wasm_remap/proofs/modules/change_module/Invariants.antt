use Rattle.wasm_base.proofs.Words.{length}
use Rattle.wasm_reader.specs.Words.{ahead}
use Rattle.wasm_remap.proofs.ModuleLaws.{HasChanged}
use Rattle.wasm_remap.proofs.modules.change_module.Given as goal

abbrev pub invariant-loop-module : goal.invariant-loop-module
invariant-loop-module g l = HasChanged (g.C.Change.changes l.change) l.offsets (ahead l.initial.sections) (ahead l.sections) l.module

abbrev pub decreases-loop-module : goal.decreases-loop-module
decreases-loop-module g l = length (ahead l.sections)
