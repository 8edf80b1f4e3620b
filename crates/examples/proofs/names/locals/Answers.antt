-- Written by tools/answers.
use Rattle.examples.proofs.Common.{arith, refl, codes, ascii, new_map, adds_name, new_indirect_map, adds_inside}
use Rattle.examples.proofs.names.locals.Goals as goal

pub returns : goal.returns
returns g c =
    let s1 = adds_name (new_map c.new-inside.ensures) (0, codes "x") c.in_ok-append.ensures.ok c.in_ok-append.ensures.counted c.in_ok-append.ensures.was_encodable (omega arith) (ascii refl) in
    adds_inside (new_indirect_map c.new-names.ensures) 0 s1 c.in_ok-append-2.ensures.ok c.in_ok-append-2.ensures.counted (omega arith)
