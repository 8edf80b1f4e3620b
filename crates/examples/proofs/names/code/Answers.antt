-- Written by tools/answers.
use Rattle.examples.proofs.Common.{new_code, adds_body}
use Rattle.examples.proofs.names.code.Goals as goal

pub returns : goal.returns
returns g c = adds_body (new_code c.new-section.ensures) c.in_ok-function.ensures.ok c.in_ok-first_function.ensures
