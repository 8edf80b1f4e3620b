use Rattle.wasm_base.proofs.Words.{inr, refl, sym, ap, subst}
use Rattle.wasm_reader.specs.Kinds.{content}
use Rattle.wasm_remap.specs.Places.{IsFound, sections_in}
use Rattle.wasm_remap.specs.Removed.{ExplainsCount}
use Rattle.wasm_remap.proofs.ErrorLaws.{fails_with, first_of, read_explained}
use Rattle.wasm_remap.proofs.remove.imported_functions.Goals as goal

pub returns-in_err-entries-clause-why : goal.returns-in_err-entries-clause-why
returns-in_err-entries-clause-why g c = λ bytes has.
    let found = subst (λ i. IsFound i (sections_in c.in-Some.field-0-0.now) c.in-Some.section.now.section (sections_in c.in-Some.field-0-2.now) (sections_in c.args.sections.now)) c.from.ensures c.in-Some.ensures in
    fails_with (ExplainsCount bytes) c.from_residual.result _ c.from_residual.ensures.1 (read_explained (ExplainsCount bytes) c.in_err-entries.field-0.0 (λ n. absurd (n refl)) (λ n. inr (first_of (sections_in c.args.sections.now) found has (c.in_err-entries.ensures.none n))))
