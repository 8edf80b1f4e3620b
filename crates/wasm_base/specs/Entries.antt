-- This file defines the entries of a builder: the arguments of adding calls, and the items that a
-- section of them encodes.
use Rattle.std.specs.Prelude.{◌≡◌, ℕ, List, map}
use Rattle.std.specs.List.{AllZip}
use Rattle.wasm_base.specs.Numbers.{minimal, padded}
use Rattle.wasm_base.specs.Formats.{Format, size_prefixed, vec}
use Rattle.wasm_base.specs.Decoding.{Unambiguous}
use Rattle.wasm_base.specs.Encodings.{HasEncodableSize}

-- A kind of items. It has the encoding of a record, its well-formedness without and with padding in
-- expressions, the item that it encodes, and the format of items.
pub record Kind (Record Item : Type 0) : Type 1 where
  pub encoding : Record → List ℕ
  pub IsWellFormed : Record → Type 0
  pub IsWellFormedPadded : Record → Type 0
  pub normal_form : Record → Item
  pub format : Format Item

-- An argument of an adding call: a record, or a piece of bytes that is encoded already.
pub data Entry (Record : Type 0) : Type 0 where
  Given : Record → Entry Record
  Raw : List ℕ → Entry Record

-- The bytes that an entry adds to the section.
abbrev pub entry_encoding : {Record : Type 0} → (Record → List ℕ) → Entry Record → List ℕ
entry_encoding encoding (Given given) = encoding given
entry_encoding encoding (Raw piece) = piece

-- The entry encodes this item: the normal form of a well-formed record, or an item that a raw piece
-- minimally encodes.
abbrev pub Means : {Record Item : Type 0} → Kind Record Item → Entry Record → Item → Type 0
Means kind (Given given) item = kind.IsWellFormed given × (item ≡ kind.normal_form given)
Means kind (Raw piece) item = kind.format minimal piece item

-- The pieces encode these entries, one each, and the entries encode these items.
pub record ContainsItems {Record Item : Type 0} (kind : Kind Record Item) (pieces : List (List ℕ)) (items : List Item) : Type 0 where
  pub entries : List (Entry Record)
  pub held : pieces ≡ map (entry_encoding kind.encoding) entries
  pub meant : AllZip (Means kind) entries items

-- The piece is a possibly padded encoding of the item. A piece longer than 2^32 - 1 bytes is not
-- constrained, since no section that encodes has one.
abbrev pub EncodesPadded : {Item : Type 0} → Format Item → List ℕ → Item → Type 0
EncodesPadded F piece item = HasEncodableSize piece → F padded piece item

-- There is one piece for each item, a possibly padded encoding of it as `EncodesPadded` states.
pub record ContainsPadded {Item : Type 0} (F : Format Item) (pieces : List (List ℕ)) (items : List Item) : Type 0 where
  pub encodes : AllZip (EncodesPadded F) pieces items

-- A section of counted items: a size-prefixed vector. Core specification, Binary Format, Modules,
-- Sections.
abbrev pub counted_format : {Item : Type 0} → Format Item → Format (List Item)
counted_format F = size_prefixed (vec F)

-- The laws of a kind of items: the format is unambiguous, and a well-formed record whose size fits
-- encodes its normal form.
pub record ItemLaws {Record Item : Type 0} (kind : Kind Record Item) : Type 0 where
  pub unique : Unambiguous kind.format
  pub encodes : (given : Record) → kind.IsWellFormed given → HasEncodableSize (kind.encoding given) → kind.format minimal (kind.encoding given) (kind.normal_form given)
