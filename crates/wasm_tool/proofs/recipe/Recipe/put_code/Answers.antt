use Rattle.wasm_tool.proofs.Common.{◌≢◌, length, arith, puts_none, puts_some}
use Rattle.wasm_tool.proofs.recipe.Recipe.put_code.Goals as goal

pub returns-then-is_empty : goal.returns-then-is_empty
returns-then-is_empty g c = puts_none 10 c.args.self.now.code c.args.target.now (c.is_empty.ensures.0 c.if-is_empty.true)

pub returns : goal.returns
returns g c =
    let some : length c.args.self.now.code ≢ 0 = λ none. let empty = c.is_empty.ensures.1 none in let full = c.if-is_empty.false in cc in
    puts_some 10 c.args.self.now.code c.args.target.now c.section.new.self c.section.result (omega (arith, some)) c.section.ensures.ok c.section.ensures.was_encodable c.section.ensures.too_long
