-- Written by tools/answers.
use Rattle.examples.proofs.Common.{[], ◌∷◌, arith, refl, Global, u32, padded, new_code, encodes_padded, without_runs, adds_instruction_padded, adds_body_padded, included_body, encodes_code_padded}
use Rattle.examples.proofs.Common.{End}
use Rattle.examples.proofs.padded.encode_padded_body.Goals as goal

pub returns : goal.returns
returns g c =
    let n1 : u32 padded (0x80 ∷ 0x00 ∷ []) 0 = record { groups = (omega arith, omega arith, omega arith); total = refl; range = omega arith; size = omega arith } in
    let b1 = adds_instruction_padded {A = Global} (without_runs n1) End refl tt in
    let s1 = adds_body_padded (encodes_padded (new_code c.new-code.ensures)) c.in_ok-raw.ensures.ok b1 in
    let s2 = adds_body_padded s1 c.in_ok-function.ensures.ok (included_body c.in_ok-local_function.ensures) in
    encodes_code_padded c.encode.ensures.appends c.encode.ensures.read s2
