use Rattle.wasm_sections.proofs.Common.{unambiguous_padded, padded_unambiguous, sections, parts}
use Rattle.wasm_sections.proofs.laws.padded.Goals as goal

pub returns : goal.returns
returns g = search (sections, parts, padded_unambiguous, unambiguous_padded)
