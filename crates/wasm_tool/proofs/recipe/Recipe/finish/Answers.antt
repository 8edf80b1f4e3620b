use Rattle.wasm_tool.proofs.Common.{◌∙◌, first_sections}
use Rattle.wasm_tool.proofs.recipe.Recipe.finish.Goals as goal

pub returns-clause-ok : goal.returns-clause-ok
returns-clause-ok g c = c.finish.ensures ∙ first_sections _ _ _ c.in_ok-module.ensures.bytes c.in_ok-put_sections.ensures.ok
