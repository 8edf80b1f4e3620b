-- Written by tools/answers.
use Rattle.examples.proofs.Common.{refl, arith, ascii, new_exports, adds_export, add_export}
use Rattle.examples.proofs.adding.exports.Goals as goal

pub returns : goal.returns
returns g c = adds_export (new_exports c.new-section.ensures) add_export c.in_ok-export.ensures.ok c.in_ok-export.ensures.was_encodable (ascii refl) (omega arith)
