use Rattle.wasm_custom.proofs.Common.{unambiguous, items, sections, parts}
use Rattle.wasm_custom.proofs.laws.sections.Goals as goal

pub returns : goal.returns
returns g = search (sections, parts, unambiguous, items)
