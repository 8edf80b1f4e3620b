-- Written by tools/answers.
use Rattle.examples.proofs.Common.{[], ◌∷◌, arith, refl, Global, new_module, finished, u32, padded, new_code, encodes_padded, without_runs, adds_instruction_padded, adds_body_padded, included_body}
use Rattle.examples.proofs.Common.{gains_code_padded, End}
use Rattle.examples.proofs.padded.padded_module.Goals as goal

pub returns : goal.returns
returns g c =
    let n1 : u32 padded (0x80 ∷ 0x80 ∷ 0x00 ∷ []) 0 = record { groups = (omega arith, omega arith, (omega arith, omega arith, omega arith)); total = refl; range = omega arith; size = omega arith } in
    let b1 = adds_instruction_padded {A = Global} (without_runs n1) End refl tt in
    let s1 = adds_body_padded (encodes_padded (new_code c.new-code.ensures)) c.in_ok-raw.ensures.ok b1 in
    let s2 = adds_body_padded s1 c.in_ok-function.ensures.ok (included_body c.in_ok-first_function.ensures) in
    let m1 = gains_code_padded (new_module c.in_ok-module.ensures.read) c.in_ok-section.ensures.read c.in_ok-section.ensures.was_encodable c.in_ok-section.ensures.section s2 in
    finished m1 c.finish.ensures
