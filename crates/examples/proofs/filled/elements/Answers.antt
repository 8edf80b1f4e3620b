-- Written by tools/answers.
use Rattle.examples.proofs.Common.{arith, pos, None, [], ◌∷◌, ints, Global, one_constant, normal_row, I32Const, new_elements, adds_functions, active}
use Rattle.examples.proofs.filled.elements.Goals as goal

pub returns : goal.returns
returns g c =
    let e1 = one_constant c.in_ok-offset.ensures.stores ((omega (arith, ints), omega (arith, ints)), tt) in
    adds_functions (new_elements c.new-section.ensures) (active None (record { bytes = _; instructions = normal_row {A = Global} (I32Const (pos 0)) ∷ [] })) (0 ∷ []) c.in_ok-active.ensures.ok c.in_ok-active.ensures.was_encodable (tt, e1) (omega arith, tt)
