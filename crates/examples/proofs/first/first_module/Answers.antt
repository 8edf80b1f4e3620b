-- Written by tools/answers.
use Rattle.examples.proofs.Common.{arith, new_module, finished, drained_array, new_code, new_function, adds_instruction, adds_body, gains_code}
use Rattle.examples.proofs.first.first_module.Goals as goal

pub returns : goal.returns
returns g c =
    let b1 = adds_instruction (new_function c.in_ok-function.ensures ((omega arith, tt), tt)) c.in_ok-instruction.ensures.ok tt in
    let s1 = adds_body (new_code c.new-code.ensures) c.in_ok-function-2.ensures.ok b1 in
    let m1 = gains_code (new_module c.in_ok-module.ensures.read) c.in_ok-section.ensures.read c.in_ok-section.ensures.was_encodable c.in_ok-section.ensures.section s1 in
    finished m1 c.finish-bytes.ensures

pub new-requires : goal.new-requires
new-requires g c = record { can = λ it b. tt; reported = λ it xs b d. drained_array it xs d }
