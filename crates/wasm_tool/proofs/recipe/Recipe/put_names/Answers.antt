use Rattle.wasm_tool.proofs.Common.{◌<◌, length, arith, puts_no_names, puts_names}
use Rattle.wasm_tool.proofs.recipe.Recipe.put_names.Goals as goal

pub returns-in-0 : goal.returns-in-0
returns-in-0 g c = puts_no_names c.args.self.now.names c.args.target.now (omega (arith, c.len.ensures, c.in-0.is))

pub returns-in_default : goal.returns-in_default
returns-in_default g c =
    let some : 0 < length c.args.self.now.names = omega (arith, c.len.ensures, c.in_default) in
    puts_names c.args.self.now.names c.args.target.now c.section.new.self c.section.result some (omega (arith, c.len.ensures, c.len.type_inv)) c.section.ensures.ok c.section.ensures.was_encodable c.section.ensures.too_long
