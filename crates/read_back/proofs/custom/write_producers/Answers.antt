-- Written by tools/answers.
use Rattle.read_back.proofs.Common.{refl, codes, ascii, size_prefixed, new_field, adds_value, new_producers, adds_field, encodes_entries, producers_payload}
use Rattle.read_back.proofs.custom.write_producers.Goals as goal

pub returns : goal.returns
returns g c =
    let s1 = adds_value (new_field c.new-values.ensures) (codes "rattle", c.args.version.now) c.in_ok-value.ensures.ok c.in_ok-value.ensures.counted c.in_ok-value.ensures.was_encodable (ascii refl) c.utf8.version in
    let s2 = adds_field (new_producers c.new-section.ensures) (codes "language") s1 c.in_ok-field.ensures.ok c.in_ok-field.ensures.was_encodable (ascii refl) in
    encodes_entries (size_prefixed producers_payload) _ _ c.encode.ensures.appends c.encode.ensures.read s2
