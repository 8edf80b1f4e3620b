-- Written by tools/answers.
use Rattle.read_back.proofs.Common.{new_module, finished, gains_process, gains_modules, gains_instances, gains_stack}
use Rattle.read_back.proofs.dumps.core_dump.Goals as goal

pub returns : goal.returns
returns g c =
    let m1 = gains_process (new_module c.in_ok-dump.ensures.read) c.in_ok-section.ensures.read c.in_ok-section.ensures.was_encodable c.in_ok-section.ensures.section c.args.name.now c.in_ok-new.ensures.is c.utf8.name in
    let m2 = gains_modules m1 c.in_ok-section-2.ensures.read c.in_ok-section-2.ensures.was_encodable c.in_ok-section-2.ensures.section c.in_ok-modules.ensures in
    let m3 = gains_instances m2 c.in_ok-section-3.ensures.read c.in_ok-section-3.ensures.was_encodable c.in_ok-section-3.ensures.section c.in_ok-instances.ensures in
    let m4 = gains_stack m3 c.in_ok-section-4.ensures.read c.in_ok-section-4.ensures.was_encodable c.in_ok-section-4.ensures.section c.in_ok-stack.ensures in
    finished m4 c.finish.ensures
