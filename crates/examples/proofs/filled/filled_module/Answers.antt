-- Written by tools/answers.
use Rattle.examples.proofs.Common.{new_module, finished, gains_elements, gains_number, gains_segments}
use Rattle.examples.proofs.filled.filled_module.Goals as goal

pub returns : goal.returns
returns g c =
    let m1 = c.in_ok-add_empty.ensures (new_module c.in_ok-module.ensures.read) in
    let m2 = gains_elements m1 c.in_ok-section.ensures.read c.in_ok-section.ensures.was_encodable c.in_ok-section.ensures.section c.in_ok-elements.ensures in
    let m3 = gains_number m2 c.in_ok-section-2.ensures.read c.in_ok-section-2.ensures.was_encodable c.in_ok-section-2.ensures.section in
    let m4 = gains_segments m3 c.in_ok-section-3.ensures.read c.in_ok-section-3.ensures.was_encodable c.in_ok-section-3.ensures.section c.in_ok-segments.ensures in
    finished m4 c.finish.ensures
