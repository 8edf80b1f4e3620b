use Rattle.wasm_sections.proofs.Common.{unambiguous, items, sections, parts}
use Rattle.wasm_sections.proofs.laws.sections.Goals as goal

pub returns : goal.returns
returns g = search (sections, parts, unambiguous, items)
