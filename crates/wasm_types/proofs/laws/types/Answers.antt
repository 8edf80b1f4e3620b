use Rattle.wasm_types.proofs.Common.{unambiguous, items, sections, parts}
use Rattle.wasm_types.proofs.laws.types.Goals as goal

pub returns : goal.returns
returns g = search (sections, parts, unambiguous, items)
