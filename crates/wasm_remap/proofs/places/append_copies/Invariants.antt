use Rattle.std.proofs.Common.{map, take}
use Rattle.wasm_remap.specs.Places.{AppendsSections, copied, sections_in}
use Rattle.wasm_remap.proofs.places.append_copies.Given as goal

abbrev pub invariant-loop-section : goal.invariant-loop-section
invariant-loop-section g l = AppendsSections (map copied (sections_in (take l.section-index l.sections))) l.fn.module l.module
