-- Written by tools/answers.
use Rattle.examples.proofs.Common.{refl, arith, ascii, adds_item, new_imports, ready}
use Rattle.examples.proofs.whole.imports.Goals as goal

pub returns : goal.returns
returns g c = adds_item (new_imports c.new-section.ensures) ready c.in_ok-import.ensures.ok (ascii refl, (ascii refl, omega arith))
