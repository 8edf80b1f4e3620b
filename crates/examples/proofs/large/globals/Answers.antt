-- Written by tools/answers.
use Rattle.examples.proofs.Common.{arith, ints, one_constant, new_globals, adds_global, large_constant}
use Rattle.examples.proofs.large.globals.Goals as goal

pub returns : goal.returns
returns g c =
    let e1 = one_constant c.in_ok-i64_const.ensures.stores ((omega (arith, ints), omega (arith, ints)), tt) in
    adds_global (new_globals c.new-section.ensures) large_constant _ c.in_ok-global.ensures.ok tt e1
