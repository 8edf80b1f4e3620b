use Rattle.std.proofs.Common.{length, ◌-◌, ◌≤◌, take}
use Rattle.wasm_remap.specs.Places.{lacks, sections_in}
use Rattle.wasm_remap.proofs.places.found.Given as goal

abbrev pub invariant-loop-at : goal.invariant-loop-at
invariant-loop-at g l = (l.at ≤ length l.sections) × lacks l.id (sections_in (take l.at l.sections))

abbrev pub decreases-loop-at : goal.decreases-loop-at
decreases-loop-at g l = length l.sections - l.at
