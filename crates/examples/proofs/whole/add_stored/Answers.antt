-- Written by tools/answers.
use Rattle.examples.proofs.Common.{gains_memories, gains_globals, gains_exports}
use Rattle.examples.proofs.whole.add_stored.Goals as goal

pub returns : goal.returns
returns g c before =
    let m1 = gains_memories before c.in_ok-section.ensures.read c.in_ok-section.ensures.was_encodable c.in_ok-section.ensures.section c.in_ok-memories.ensures in
    let m2 = gains_globals m1 c.in_ok-section-2.ensures.read c.in_ok-section-2.ensures.was_encodable c.in_ok-section-2.ensures.section c.in_ok-globals.ensures in
    gains_exports m2 c.in_ok-section-3.ensures.read c.in_ok-section-3.ensures.was_encodable c.in_ok-section-3.ensures.section c.in_ok-exports.ensures
