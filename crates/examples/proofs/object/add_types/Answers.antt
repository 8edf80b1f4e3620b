-- Written by tools/answers.
use Rattle.examples.proofs.Common.{gains_functions, gains_memories, gains_types}
use Rattle.examples.proofs.object.add_types.Goals as goal

pub returns : goal.returns
returns g c before =
    let m1 = gains_types before c.in_ok-section.ensures.read c.in_ok-section.ensures.was_encodable c.in_ok-section.ensures.section c.in_ok-types.ensures in
    let m2 = gains_functions m1 c.in_ok-section-2.ensures.read c.in_ok-section-2.ensures.was_encodable c.in_ok-section-2.ensures.section c.in_ok-functions.ensures in
    gains_memories m2 c.in_ok-section-3.ensures.read c.in_ok-section-3.ensures.was_encodable c.in_ok-section-3.ensures.section c.in_ok-memories.ensures
