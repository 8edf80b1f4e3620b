-- Written by tools/answers.
use Rattle.dolzhytik.proofs.base.Words.{refl, arith, ascii}
use Rattle.dolzhytik.proofs.sections.Words.{new_exports, adds_export}
use Rattle.adder.specs.Items.{add_export}
use Rattle.adder.proofs.exports.Goals as goal

pub returns : goal.returns
returns g c = adds_export (new_exports c.new-section.ensures) add_export c.in_ok-export.ensures.ok c.in_ok-export.ensures.was_encodable (ascii refl) (omega arith)
