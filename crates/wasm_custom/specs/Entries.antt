-- This file defines custom sections whose data are a front and a list of entries.
use Rattle.std.specs.Prelude.{◌≡◌, ℕ, List, [], ◌++◌, Bool, true, false, cond, IsUtf8}
use Rattle.wasm_base.specs.Stores.{Joined, pieces_model}
use Rattle.wasm_base.specs.Words.{Format, fixed, tagged, vec, members, when, minimal, unsigned_encoding, Unambiguous, BeginsWith}
use Rattle.wasm_custom.specs.Customs.{named_payload}

-- The encoding of the count, or no bytes if the entries are not counted.
abbrev pub count_encoding : Bool → ℕ → List ℕ
count_encoding counted n = cond counted (unsigned_encoding n) []

-- The data of a section: a front, the number of entries if they are counted, and the entries.
abbrev pub joined_data : List ℕ → Bool → Joined → List ℕ
joined_data front counted j = front ++ (count_encoding counted j.number ++ j.content)

-- `joined_data` of entries that are a list of pieces.
abbrev pub entries_encoding : List ℕ → Bool → List (List ℕ) → List ℕ
entries_encoding front counted pieces = joined_data front counted (pieces_model.joins pieces)

-- A list of items: a vector if they are counted, or one after another up to the last byte.
abbrev pub listing : {Item : Type 0} → Bool → Format Item → Format (List Item)
listing counted F = when counted (vec F) (members F)

-- The data of a section of items, after a front that carries no value.
abbrev pub entries : {Item : Type 0} → Format (Unit {0}) → Bool → Format Item → Format (List Item)
entries front counted F = tagged front (λ u. listing counted F)

-- The payload of a section: this name, and a vector of items.
abbrev pub counted_payload : {Item : Type 0} → List ℕ → Format Item → Format (List Item)
counted_payload n F = named_payload n (entries (fixed [] (tt {0})) true F)

-- The laws of a kind of custom section, in addition to those of its items. Its name is UTF-8, and
-- its front is encoded in an unambiguous format. If items are not counted, none of them is empty.
pub record CustomLayoutLaws {Item : Type 0} (F : Format Item) (name front : List ℕ) (front_format : Format (Unit {0})) (counted : Bool) : Type 0 where
  pub name_utf8 : IsUtf8 name
  pub front_unique : Unambiguous front_format
  pub front_encodes : front_format minimal front (tt {0})
  pub begins : counted ≡ false → BeginsWith (λ b. Unit {0}) F
