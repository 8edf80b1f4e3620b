use Rattle.wasm_tool.specs.Words.{first_script}
use Rattle.wasm_c.proofs.Assembled.{outcome}
use Rattle.wasm_c.proofs.recipes.dz_assemble.Goals as goal

pub returns : goal.returns
returns c =
    outcome first_script c.args.out.now c.answer_of.new.out c.answer_of.new.line c.answer_of.new.cause c.answer_of.result (λ bytes. bytes.items) c.assemble.result c.in-Ok.ensures.cases
    (record { good = c.assemble.ensures.good; value = c.assemble.ensures.value; read = c.assemble.ensures.read; fault = c.assemble.ensures.fault }) c.answer_of.ensures
