-- Written by tools/answers.
use Rattle.examples.proofs.Common.{new_code, adds_body}
use Rattle.examples.proofs.compiled.code.Goals as goal

pub returns : goal.returns
returns g c =
    let s1 = adds_body (new_code c.new-section.ensures) c.in_ok-function.ensures.ok c.in_ok-compile.ensures in
    let s2 = adds_body s1 c.in_ok-function-2.ensures.ok c.in_ok-compiled_factorial.ensures in
    adds_body s2 c.in_ok-function-3.ensures.ok c.in_ok-compile-2.ensures
