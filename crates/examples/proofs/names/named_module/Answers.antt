-- Written by tools/answers.
use Rattle.examples.proofs.Common.{new_module, finished, gains_code, gains_names}
use Rattle.examples.proofs.names.named_module.Goals as goal

pub returns : goal.returns
returns g c =
    let m1 = gains_code (new_module c.in_ok-module.ensures.read) c.in_ok-section.ensures.read c.in_ok-section.ensures.was_encodable c.in_ok-section.ensures.section c.in_ok-code.ensures in
    let m2 = gains_names m1 c.in_ok-section-2.ensures.read c.in_ok-section-2.ensures.was_encodable c.in_ok-section-2.ensures.section c.in_ok-names.ensures in
    finished m2 c.finish.ensures
