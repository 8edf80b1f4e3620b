use Rattle.wasm_base.proofs.Words.{refl}
use Rattle.wasm_reader.proofs.IteratingLaws.{next_error}
use Rattle.wasm_remap.specs.Errors.{ExplainsSections}
use Rattle.wasm_remap.proofs.ErrorLaws.{fails_with, listed_malformed, read_explained}
use Rattle.wasm_remap.proofs.places.sections_of.Goals as goal

pub returns-in_err-section-in-Some-clause-why : goal.returns-in_err-section-in-Some-clause-why
returns-in_err-section-in-Some-clause-why g c =
    let why = ExplainsSections c.args.bytes.now in
    fails_with why c.from_residual-in_err-section-in-Some.result _ c.from_residual-in_err-section-in-Some.ensures.1 (read_explained why _ refl (λ n. listed_malformed c.args.bytes.now c.in_ok-sections.ensures.found c.loop-list.invariant (next_error c.in_err-section-in-Some.was c.in-Some.ensures.steps) n))
