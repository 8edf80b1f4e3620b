-- Written by tools/answers.
use Rattle.examples.proofs.Common.{arith, ints, one_constant, new_globals, adds_global, five}
use Rattle.examples.proofs.whole.globals.Goals as goal

pub returns : goal.returns
returns g c =
    let e1 = one_constant c.in_ok-i32_const.ensures.stores ((omega (arith, ints), omega (arith, ints)), tt) in
    adds_global (new_globals c.new-section.ensures) five _ c.in_ok-global.ensures.ok tt e1
