-- This file proves that producers sections are unambiguous.
use Rattle.wasm_base.proofs.Words.{[], true, refl, ItemLaws, name, vec, fixed, minimal, Unambiguous, size_prefixed_encoding, vec_encoding, name_unambiguous, ascii, pair_unambiguous, vec_unambiguous}
use Rattle.wasm_base.proofs.Words.{pair_encodes, name_encodes, vec_encodes, SectionLaws}
use Rattle.wasm_custom.specs.{CustomLayoutLaws, Producer, producer_encoding, IsProducer, Field, field_encoding, IsField, producer, field, producers_name, field_items, producers_payload}
use Rattle.wasm_custom.proofs.EntriesLaws.{counted_layout, entries_laws}

pub field_unambiguous : Unambiguous field
field_unambiguous = pair_unambiguous name_unambiguous (vec_unambiguous (pair_unambiguous name_unambiguous name_unambiguous))

producer_encodes : (p : Producer) → IsProducer p → producer minimal (producer_encoding p) p
producer_encodes p plain = pair_encodes name name (size_prefixed_encoding p.0) (size_prefixed_encoding p.1) p.0 p.1 (name_encodes p.0 plain.0.0 plain.0.1) (name_encodes p.1 plain.1.0 plain.1.1)

field_encodes : (f : Field) → IsField f → field minimal (field_encoding f) f
field_encodes f plain =
    pair_encodes name (vec producer) (size_prefixed_encoding f.0) (vec_encoding producer_encoding f.1) f.0 f.1 (name_encodes f.0 plain.0.0 plain.0.1) (vec_encodes producer IsProducer producer_encoding producer_encodes f.1 plain.1)

pub producer_laws : ItemLaws field_items
producer_laws = record { unique = field_unambiguous; encodes = λ f plain encodable. field_encodes f plain }

pub producer_layout : CustomLayoutLaws field producers_name [] (fixed [] (tt {0})) true
producer_layout = counted_layout (ascii {bytes = producers_name} refl)

pub producers_section : SectionLaws field_items producers_payload
producers_section = entries_laws producer_laws producer_layout (λ given plain. plain) (λ given plain. plain)
