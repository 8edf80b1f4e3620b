use Rattle.wasm_tool.specs.Words.{versioned_script}
use Rattle.wasm_c.proofs.Assembled.{outcome}
use Rattle.wasm_c.proofs.recipes.dz_assemble_versioned.Goals as goal

pub returns : goal.returns
returns c =
    outcome versioned_script c.args.out.now c.answer_of.new.out c.answer_of.new.line c.answer_of.new.cause c.answer_of.result (λ bytes. bytes.items) c.assemble_versioned.result c.in-Ok.ensures.cases
    (record { good = c.assemble_versioned.ensures.good; value = c.assemble_versioned.ensures.value; read = c.assemble_versioned.ensures.read; fault = c.assemble_versioned.ensures.fault }) c.answer_of.ensures
