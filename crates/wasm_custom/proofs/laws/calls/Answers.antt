use Rattle.wasm_custom.proofs.Common.{contains_more, list_more, is_vector}
use Rattle.wasm_custom.proofs.laws.calls.Goals as goal

pub returns : goal.returns
returns g = search (contains_more, list_more, is_vector)
