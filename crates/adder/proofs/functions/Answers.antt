-- Written by tools/answers.
use Rattle.dolzhytik.proofs.base.Words.{arith, adds_item}
use Rattle.dolzhytik.proofs.sections.Words.{new_functions}
use Rattle.adder.proofs.functions.Goals as goal

pub returns : goal.returns
returns g c = adds_item (new_functions c.new-section.ensures) 0 c.in_ok-function.ensures.ok (omega arith)
