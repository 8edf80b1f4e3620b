use Rattle.wasm_sections.proofs.Common.{payloads, u32-payload, sections}
use Rattle.wasm_sections.proofs.laws.payloads.Goals as goal

pub returns : goal.returns
returns g = search (sections, payloads, u32-payload)
