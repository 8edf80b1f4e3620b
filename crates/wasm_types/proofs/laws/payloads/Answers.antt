use Rattle.wasm_types.proofs.Common.{payloads, sections}
use Rattle.wasm_types.proofs.laws.payloads.Goals as goal

pub returns : goal.returns
returns g = search (sections, payloads)
