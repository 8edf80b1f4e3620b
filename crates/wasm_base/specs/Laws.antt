-- This file defines which values fit their encodings, and how the items of a section grow call by
-- call, for the laws.
use Rattle.std.specs.Prelude.{ℕ, ◌^◌, ◌<◌, ℤ, pos, neg_ℤ, ◌≤ℤ◌, ◌<ℤ◌, List, [], ◌∷◌, ◌++◌, map, IsUtf8}
use Rattle.std.specs.List.{AllByRecursion}
use Rattle.wasm_base.specs.Entries.{Kind, ContainsItems, ContainsPadded}
use Rattle.wasm_base.specs.Formats.{Format}
use Rattle.wasm_base.specs.Numbers.{Mode, minimal, padded, IsOfBuilders}
use Rattle.wasm_base.specs.Decoding.{Rejects}
use Rattle.wasm_base.specs.Encodings.{size_prefixed_encoding, HasEncodableSize}

-- A number of at most this many bits.
abbrev pub IsUnsignedInRange : ℕ → ℕ → Type 0
IsUnsignedInRange bits n = n < 2 ^ bits

-- A number of at most `n` bytes.
abbrev pub IsByteNumberInRange : ℕ → ℕ → Type 0
IsByteNumberInRange n v = v < 256 ^ n

-- A signed number of 32 bits.
abbrev pub IsSigned32InRange : ℤ → Type 0
IsSigned32InRange v = (neg_ℤ (pos (2 ^ 31)) ≤ℤ v) × (v <ℤ pos (2 ^ 31))

-- A signed number of 64 bits.
abbrev pub IsSigned64InRange : ℤ → Type 0
IsSigned64InRange v = (neg_ℤ (pos (2 ^ 63)) ≤ℤ v) × (v <ℤ pos (2 ^ 63))

-- UTF-8 whose length is at most 2^32 - 1.
abbrev pub IsEncodableName : List ℕ → Type 0
IsEncodableName bytes = IsUtf8 bytes × HasEncodableSize bytes

-- The encoding of a custom section without its id: a size prefix, a name and data.
abbrev pub custom_encoding : List ℕ × List ℕ → List ℕ
custom_encoding c = size_prefixed_encoding (size_prefixed_encoding c.0 ++ c.1)

-- A name and data whose sizes are at most 2^32 - 1.
pub record IsEncodableCustom (c : List ℕ × List ℕ) : Type 0 where
  pub name : IsEncodableName c.0
  pub size : HasEncodableSize (size_prefixed_encoding c.0 ++ c.1)

-- ---- the items of a section, call by call

-- A section without entries holds no items. The entry of a well-formed record adds its normal form,
-- and an entry of raw bytes adds the item that they minimally encode. `add_all` adds its records as
-- if one by one.
pub record ContainsMore {Record Item : Type 0} (kind : Kind Record Item) : Type 0 where
  pub none : ContainsItems kind [] []
  pub given : (pieces : List (List ℕ)) (items : List Item) (given : Record) → ContainsItems kind pieces items → kind.IsWellFormed given → ContainsItems kind (pieces ++ kind.encoding given ∷ []) (items ++ kind.normal_form given ∷ [])
  pub raw : (pieces : List (List ℕ)) (items : List Item) (piece : List ℕ) (item : Item) → ContainsItems kind pieces items → kind.format minimal piece item → ContainsItems kind (pieces ++ piece ∷ []) (items ++ item ∷ [])
  pub all : (pieces : List (List ℕ)) (items : List Item) (given : List Record) → ContainsItems kind pieces items → AllByRecursion kind.IsWellFormed given → ContainsItems kind (pieces ++ map kind.encoding given) (items ++ map kind.normal_form given)

-- The same for padded LEB128. A section holds all that it holds in minimal encodings. A record that
-- is well-formed, with possibly padded expressions, adds its normal form. Raw bytes add the item
-- that they encode, possibly padded.
pub record ContainsMorePadded {Record Item : Type 0} (kind : Kind Record Item) : Type 0 where
  pub none : ContainsPadded kind.format [] []
  pub held : (pieces : List (List ℕ)) (items : List Item) → ContainsItems kind pieces items → ContainsPadded kind.format pieces items
  pub included : (given : Record) → kind.IsWellFormed given → kind.IsWellFormedPadded given
  pub given : (pieces : List (List ℕ)) (items : List Item) (given : Record) → ContainsPadded kind.format pieces items → kind.IsWellFormedPadded given → ContainsPadded kind.format (pieces ++ kind.encoding given ∷ []) (items ++ kind.normal_form given ∷ [])
  pub raw : (pieces : List (List ℕ)) (items : List Item) (piece : List ℕ) (item : Item) → ContainsPadded kind.format pieces items → kind.format padded piece item → ContainsPadded kind.format (pieces ++ piece ∷ []) (items ++ item ∷ [])
  pub all : (pieces : List (List ℕ)) (items : List Item) (given : List Record) → ContainsPadded kind.format pieces items → AllByRecursion kind.IsWellFormedPadded given → ContainsPadded kind.format (pieces ++ map kind.encoding given) (items ++ map kind.normal_form given)

-- In neither mode of the builders' grammar does a value decode from the front of the bytes,
-- whatever follows them.
pub record RejectsAllAfterPadded {X : Type 0} (F : Format X) (encoding : List ℕ) : Type 0 where
  pub none : (mode : Mode) → IsOfBuilders mode → (after : List ℕ) → Rejects F mode (encoding ++ after)
