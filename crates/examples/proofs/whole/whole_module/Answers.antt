-- Written by tools/answers.
use Rattle.examples.proofs.Common.{new_module, finished, gains_code, gains_number}
use Rattle.examples.proofs.whole.whole_module.Goals as goal

pub returns : goal.returns
returns g c =
    let m1 = c.in_ok-add_declared.ensures (new_module c.in_ok-module.ensures.read) in
    let m2 = c.in_ok-add_stored.ensures m1 in
    let m3 = gains_number m2 c.in_ok-section.ensures.read c.in_ok-section.ensures.was_encodable c.in_ok-section.ensures.section in
    let m4 = gains_code m3 c.in_ok-section-2.ensures.read c.in_ok-section-2.ensures.was_encodable c.in_ok-section-2.ensures.section c.in_ok-code.ensures in
    finished m4 c.finish.ensures
