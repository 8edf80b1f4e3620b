-- Written by tools/answers.
use Rattle.examples.proofs.Common.{refl, arith, ascii, new_exports, adds_export, factorial_export, memory_export}
use Rattle.examples.proofs.whole.exports.Goals as goal

pub returns : goal.returns
returns g c =
    let s1 = adds_export (new_exports c.new-section.ensures) factorial_export c.in_ok-export.ensures.ok c.in_ok-export.ensures.was_encodable (ascii refl) (omega arith) in
    adds_export s1 memory_export c.in_ok-export-2.ensures.ok c.in_ok-export-2.ensures.was_encodable (ascii refl) (omega arith)
