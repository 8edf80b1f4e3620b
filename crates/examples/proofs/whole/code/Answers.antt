-- Written by tools/answers.
use Rattle.examples.proofs.Common.{new_code, adds_body}
use Rattle.examples.proofs.whole.code.Goals as goal

pub returns : goal.returns
returns g c =
    let s1 = adds_body (new_code c.new-section.ensures) c.in_ok-function.ensures.ok c.in_ok-factorial.ensures in
    adds_body s1 c.in_ok-function-2.ensures.ok c.in_ok-start.ensures
