use Rattle.wasm_tool.proofs.Common.{◌≢◌, length, arith, puts_none, puts_some}
use Rattle.wasm_tool.proofs.recipe.put_counted.Goals as goal

pub returns-then-is_empty : goal.returns-then-is_empty
returns-then-is_empty g c = puts_none g.K.ItemKind.section_id c.args.«section».now c.args.target.now (c.is_empty.ensures.0 c.if-is_empty.true)

pub returns : goal.returns
returns g c =
    let some : length c.args.«section».now ≢ 0 = λ none. let empty = c.is_empty.ensures.1 none in let full = c.if-is_empty.false in cc in
    puts_some g.K.ItemKind.section_id c.args.«section».now c.args.target.now c.section.new.self c.section.result (omega (arith, some)) c.section.ensures.ok c.section.ensures.was_encodable c.section.ensures.too_long
