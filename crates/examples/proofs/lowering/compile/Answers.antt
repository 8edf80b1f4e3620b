use Rattle.examples.proofs.Common.{arith, new_function}
use Rattle.examples.proofs.lowering.compile.Goals as goal

pub returns : goal.returns
returns g c =
    let begun = new_function c.in_ok-function.ensures ((omega (arith, c.ranges.locals.fits), tt), tt) in
    c.in_ok-emit.ensures.plain _ (c.in_ok-emit_all.ensures.plain _ begun)
