-- Written by tools/answers.
use Rattle.examples.proofs.Common.{arith, adds_item, new_functions}
use Rattle.examples.proofs.adding.functions.Goals as goal

pub returns : goal.returns
returns g c = adds_item (new_functions c.new-section.ensures) 0 c.in_ok-function.ensures.ok (omega arith)
