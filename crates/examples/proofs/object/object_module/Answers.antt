-- Written by tools/answers.
use Rattle.examples.proofs.Common.{new_module, finished, gains_code, gains_hints, gains_linking, gains_producers}
use Rattle.examples.proofs.object.object_module.Goals as goal

pub returns : goal.returns
returns g c =
    let m1 = c.in_ok-add_types.ensures (new_module c.in_ok-module.ensures.read) in
    let m2 = gains_hints m1 c.in_ok-section.ensures.read c.in_ok-section.ensures.was_encodable c.in_ok-section.ensures.section c.in_ok-hints.ensures in
    let m3 = gains_code m2 c.in_ok-section-2.ensures.read c.in_ok-section-2.ensures.was_encodable c.in_ok-section-2.ensures.section c.in_ok-code.ensures in
    let m4 = gains_linking m3 c.in_ok-section-3.ensures.read c.in_ok-section-3.ensures.was_encodable c.in_ok-section-3.ensures.section c.in_ok-linking.ensures in
    let m5 = gains_producers m4 c.in_ok-section-4.ensures.read c.in_ok-section-4.ensures.was_encodable c.in_ok-section-4.ensures.section c.in_ok-producers.ensures in
    finished m5 c.finish.ensures
