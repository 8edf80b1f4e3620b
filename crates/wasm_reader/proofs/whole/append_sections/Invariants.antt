use Rattle.wasm_reader.proofs.Common.{◌≡◌, ◌≤◌, ◌+◌, length, Rewrites, ahead}
use Rattle.wasm_reader.proofs.whole.append_sections.Given as goal

abbrev pub invariant-loop-section : goal.invariant-loop-section
invariant-loop-section g l =
    Rewrites l.initial.offsets (ahead l.initial.sections) (ahead l.sections) l.initial.sink.items l.sink.items l.tally
    × (l.tally.kept ≤ l.tally.sections)
    × (l.sections.offset + length (ahead l.sections) ≡ l.initial.sections.offset + length (ahead l.initial.sections))

abbrev pub decreases-loop-section : goal.decreases-loop-section
decreases-loop-section g l = length (ahead l.sections)
