use Rattle.wasm_base.proofs.Words.{arith, subst, ◌∙◌}
use Rattle.wasm_sections.proofs.Words.{new_exports}
use Rattle.wasm_sections.specs.Exports.{ContainsExports}
use Rattle.examples.proofs.CoverageLaws.{adds_counter, exports_push}
use Rattle.examples.proofs.coverage.counters.exports.Goals as goal

pub loop-body-init : goal.loop-body-init
loop-body-init g c = new_exports c.new-section.ensures

pub loop-body-preserved : goal.loop-body-preserved
loop-body-preserved g c =
    let f = c.in-Some-Some.function in
    let i = c.in-Some-Some.counter in
    let name = c.as_str.ensures.value ∙ c.in_ok-name.ensures in
    subst (ContainsExports c.export.new.self) (exports_push c.loop-body.body c.args.numbers.function c.args.numbers.counter f i c.in-Some-Some.ensures.1 c.in-Some-Some.ensures'.1)
    (adds_counter f i c.as_str.result.now c.loop-body.invariant name c.in_ok-export.ensures.ok c.in_ok-export.ensures.was_encodable (omega (arith, c.in-Some-Some.ensures.0)) (omega (arith, c.in-Some-Some.ensures'.0)))
