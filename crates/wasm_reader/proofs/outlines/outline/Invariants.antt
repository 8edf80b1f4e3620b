use Rattle.wasm_reader.proofs.Common.{◌≡◌, ◌+◌, length, header, ahead, HasOutlined}
use Rattle.wasm_reader.proofs.outlines.outline.Given as goal

abbrev pub invariant-loop-lines : goal.invariant-loop-lines
invariant-loop-lines g l = HasOutlined (length header) (ahead l.initial.sections) l.lines.items (ahead l.sections) × (l.sections.offset + length (ahead l.sections) ≡ length header + length (ahead l.initial.sections))

abbrev pub decreases-loop-lines : goal.decreases-loop-lines
decreases-loop-lines g l = length (ahead l.sections)
