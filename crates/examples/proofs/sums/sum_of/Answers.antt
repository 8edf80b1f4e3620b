-- Written by tools/answers.
use Rattle.examples.proofs.Common.{arith, pos, [], ◌∷◌, ints, Global, one_constant, adds_constant, normal_row, GlobalGet, I32Const}
use Rattle.examples.proofs.sums.sum_of.Goals as goal

pub returns : goal.returns
returns g c =
    let e1 = one_constant c.in_ok-global_get.ensures.stores (omega (arith, c.ranges.index.fits), tt) in
    let e2 = adds_constant (normal_row {A = Global} (GlobalGet c.args.index) ∷ []) e1 c.in_ok-both.ensures.stores ((omega (arith, ints), omega (arith, ints)), tt) in
    adds_constant (normal_row {A = Global} (GlobalGet c.args.index) ∷ normal_row {A = Global} (I32Const (pos 5)) ∷ []) e2 c.in_ok-sum.ensures.stores tt
