-- Written by tools/answers.
use Rattle.examples.proofs.Common.{new_module, finished, gains_code, gains_functions, gains_exports, gains_types}
use Rattle.examples.proofs.adding.adding_module.Goals as goal

pub returns : goal.returns
returns g c =
    let m1 = gains_types (new_module c.in_ok-module.ensures.read) c.in_ok-section.ensures.read c.in_ok-section.ensures.was_encodable c.in_ok-section.ensures.section c.in_ok-types.ensures in
    let m2 = gains_functions m1 c.in_ok-section-2.ensures.read c.in_ok-section-2.ensures.was_encodable c.in_ok-section-2.ensures.section c.in_ok-functions.ensures in
    let m3 = gains_exports m2 c.in_ok-section-3.ensures.read c.in_ok-section-3.ensures.was_encodable c.in_ok-section-3.ensures.section c.in_ok-exports.ensures in
    let m4 = gains_code m3 c.in_ok-section-4.ensures.read c.in_ok-section-4.ensures.was_encodable c.in_ok-section-4.ensures.section c.in_ok-code.ensures in
    finished m4 c.finish.ensures
