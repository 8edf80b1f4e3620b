-- Written by tools/answers.
use Rattle.examples.proofs.Common.{refl, codes, ascii, new_field, adds_value, new_producers, adds_field}
use Rattle.examples.proofs.object.producers.Goals as goal

pub returns : goal.returns
returns g c =
    let s1 = adds_value (new_field c.new-values.ensures) (codes "dolzhytik", codes "0.1.0") c.in_ok-value.ensures.ok c.in_ok-value.ensures.counted c.in_ok-value.ensures.was_encodable (ascii refl) (ascii refl) in
    adds_field (new_producers c.new-section.ensures) (codes "processed-by") s1 c.in_ok-field.ensures.ok c.in_ok-field.ensures.was_encodable (ascii refl)
