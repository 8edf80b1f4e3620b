use Rattle.wasm_tool.proofs.SectionLemmas.{puts_none}
use Rattle.wasm_tool.proofs.recipe.Recipe.put_types.Goals as goal

pub returns-then-is_empty : goal.returns-then-is_empty
returns-then-is_empty g c = puts_none 1 c.args.self.now.types c.args.target.now (c.is_empty.ensures.0 c.if-is_empty.true)
