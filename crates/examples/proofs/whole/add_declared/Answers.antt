-- Written by tools/answers.
use Rattle.examples.proofs.Common.{gains_raw, gains_imports, gains_functions}
use Rattle.examples.proofs.whole.add_declared.Goals as goal

pub returns : goal.returns
returns g c before =
    let m1 = gains_raw before c.in_ok-section.ensures.read c.in_ok-section.ensures.was_encodable c.in_ok-section.ensures.section in
    let m2 = gains_imports m1 c.in_ok-section-2.ensures.read c.in_ok-section-2.ensures.was_encodable c.in_ok-section-2.ensures.section c.in_ok-imports.ensures in
    gains_functions m2 c.in_ok-section-3.ensures.read c.in_ok-section-3.ensures.was_encodable c.in_ok-section-3.ensures.section c.in_ok-functions.ensures
