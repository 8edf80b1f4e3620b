use Rattle.wasm_tool.proofs.Common.{arith, encodable_count, encodable_size_prefixed}
use Rattle.wasm_tool.proofs.recipe.Recipe.read_body.Goals as goal

pub returns-in_err-raw : goal.returns-in_err-raw
returns-in_err-raw g c = grind (arith, encodable_count, encodable_size_prefixed)
