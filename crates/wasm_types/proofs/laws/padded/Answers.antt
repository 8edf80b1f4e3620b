use Rattle.wasm_types.proofs.Common.{unambiguous_padded, padded_unambiguous, sections, parts}
use Rattle.wasm_types.proofs.laws.padded.Goals as goal

pub returns : goal.returns
returns g = search (sections, parts, padded_unambiguous, unambiguous_padded)
