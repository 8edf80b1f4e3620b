-- This file proves that a section of counted items decodes to these alone.
use Rattle.wasm_base.proofs.Std.{ℕ, ◌≤◌, List, [], ◌∷◌, length, map, sym, subst, arith, length-append, AllZip}
use Rattle.wasm_base.specs.{minimal, padded, unsigned_encoding, Format, Unambiguous, DecodesUniquely, longest, joined, section_encoding, IsEncodableSection, DecodesBack, DecodesBackPadded}
use Rattle.wasm_base.specs.{DecodesBackBoth, Kind, Entry, Given, Raw, entry_encoding, Means, ContainsItems, EncodesPadded, ContainsPadded, counted_format, ItemLaws}
use Rattle.wasm_base.proofs.FormatLaws.{vec_unambiguous, size_prefixed_unambiguous, whole_from_unique}
use Rattle.wasm_base.proofs.EncodingLaws.{section_unique, section_unique_padded}

pub counted_unambiguous : {Item : Type 0} {F : Format Item} → Unambiguous F → Unambiguous (counted_format F)
counted_unambiguous f = size_prefixed_unambiguous (whole_from_unique (vec_unambiguous f))

-- The entries together are no longer than the size of the section.
pub content_encodable : (pieces : List (List ℕ)) → IsEncodableSection pieces → length (joined pieces) ≤ longest
content_encodable pieces encodable = omega (arith, encodable.size, length-append (unsigned_encoding (length pieces)) (joined pieces))

-- Pieces whose total size fits encode their items.
pub pieces_encodes : {Item : Type 0} (F : Format Item) (pieces : List (List ℕ)) (items : List Item) → length (joined pieces) ≤ longest → AllZip (EncodesPadded F) pieces items → AllZip (F padded) pieces items
pieces_encodes F [] [] encodable contains = tt
pieces_encodes F [] (item ∷ items) encodable contains = absurd contains
pieces_encodes F (piece ∷ pieces) [] encodable contains = absurd contains
pieces_encodes F (piece ∷ pieces) (item ∷ items) encodable contains =
    let whole = length-append piece (joined pieces) in
    (contains.0 (omega (arith, encodable, whole)), pieces_encodes F pieces items (omega (arith, encodable, whole)) contains.1)

pub counted_unique_padded : {Item : Type 0} {F : Format Item} → Unambiguous F → (pieces : List (List ℕ)) → IsEncodableSection pieces → DecodesBackPadded (counted_format F) (ContainsPadded F pieces) (section_encoding pieces)
counted_unique_padded {F = F} f pieces encodable = record {
  for_each = λ items contains. section_unique_padded {F = F} (counted_unambiguous {F = F} f) pieces items encodable (pieces_encodes F pieces items (content_encodable pieces encodable) contains.encodes);
}

module _ {Record Item : Type 0} (kind : Kind Record Item) (laws : ItemLaws kind) where
  pub entry_encodes : (entry : Entry Record) (item : Item) → length (entry_encoding kind.encoding entry) ≤ longest → Means kind entry item → kind.format minimal (entry_encoding kind.encoding entry) item
  entry_encodes (Given given) item encodable means = subst (λ x. kind.format minimal (kind.encoding given) x) (sym means.1) (laws.encodes given means.0 encodable)
  entry_encodes (Raw piece) item encodable means = means

  -- Each entry encodes its item.
  pub entries_encodes : (entries : List (Entry Record)) (items : List Item) → length (joined (map (entry_encoding kind.encoding) entries)) ≤ longest
      → AllZip (Means kind) entries items → AllZip (kind.format minimal) (map (entry_encoding kind.encoding) entries) items
  entries_encodes [] [] encodable means = tt
  entries_encodes [] (item ∷ items) encodable means = absurd means
  entries_encodes (entry ∷ entries) [] encodable means = absurd means
  entries_encodes (entry ∷ entries) (item ∷ items) encodable means =
      let rest = joined (map (entry_encoding kind.encoding) entries) in
      let whole = length-append (entry_encoding kind.encoding entry) rest in
      (entry_encodes entry item (omega (arith, encodable, whole)) means.0, entries_encodes entries items (omega (arith, encodable, whole)) means.1)

  counted_unique : (pieces : List (List ℕ)) → IsEncodableSection pieces → DecodesBack (counted_format kind.format) (ContainsItems kind pieces) (section_encoding pieces)
  counted_unique pieces encodable = record {
    for_each = λ items contains.
        subst (λ ps. DecodesUniquely (counted_format kind.format) (section_encoding ps) items) (sym contains.held)
        (let encodable = subst IsEncodableSection contains.held encodable in
        let held = map (entry_encoding kind.encoding) contains.entries in
        section_unique {F = kind.format} (counted_unambiguous {F = kind.format} laws.unique) held items encodable (entries_encodes contains.entries items (content_encodable held encodable) contains.meant));
  }

  pub counted_decodes : (pieces : List (List ℕ)) → IsEncodableSection pieces → DecodesBackBoth (counted_format kind.format) (ContainsItems kind pieces) (ContainsPadded kind.format pieces) (section_encoding pieces)
  counted_decodes pieces encodable = record { plain = counted_unique pieces encodable; padded = counted_unique_padded {F = kind.format} laws.unique pieces encodable }
