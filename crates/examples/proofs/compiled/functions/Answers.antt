-- Written by tools/answers.
use Rattle.examples.proofs.Common.{arith, adds_item, new_functions}
use Rattle.examples.proofs.compiled.functions.Goals as goal

pub returns : goal.returns
returns g c =
    let s1 = adds_item (new_functions c.new-section.ensures) 0 c.in_ok-function.ensures.ok (omega arith) in
    let s2 = adds_item s1 1 c.in_ok-function-2.ensures.ok (omega arith) in
    adds_item s2 1 c.in_ok-function-3.ensures.ok (omega arith)
