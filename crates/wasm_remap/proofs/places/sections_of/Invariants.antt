use Rattle.wasm_base.proofs.Words.{length}
use Rattle.wasm_reader.specs.Words.{ahead}
use Rattle.wasm_remap.proofs.PlaceLaws.{HasListed}
use Rattle.wasm_remap.proofs.places.sections_of.Given as goal

abbrev pub invariant-loop-list : goal.invariant-loop-list
invariant-loop-list g l = HasListed (ahead l.initial.sections) (ahead l.sections) l.list.items

abbrev pub decreases-loop-list : goal.decreases-loop-list
decreases-loop-list g l = length (ahead l.sections)
