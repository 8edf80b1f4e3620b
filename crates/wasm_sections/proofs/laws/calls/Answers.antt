use Rattle.wasm_base.proofs.Words.{contains_more}
use Rattle.wasm_sections.proofs.laws.calls.Goals as goal

pub returns : goal.returns
returns g = search (contains_more)
