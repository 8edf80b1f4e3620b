use Rattle.wasm_tool.proofs.Common.{arith, encodable_count, encodable_name}
use Rattle.wasm_tool.proofs.recipe.Recipe.read_export.Goals as goal

pub returns-in_err-export : goal.returns-in_err-export
returns-in_err-export g c = grind (arith, encodable_count, encodable_name)
