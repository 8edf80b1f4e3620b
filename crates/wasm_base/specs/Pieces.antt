-- This file defines the entries of a builder: pieces of bytes that are stored one after another.
use Rattle.std.specs.Prelude.{◌≡◌, ℕ, ◌+◌, ◌-◌, ◌<◌, ◌≤◌, List, [], ◌∷◌, ◌++◌, length, take, drop}
use Rattle.wasm_base.specs.Numbers.{unsigned_encoding}
use Rattle.std.proofs.Common.{sym, ap, subst}
use Rattle.wasm_base.specs.Encodings.{longest, size_prefixed_encoding, HasEncodableSize, IsSizePrefixed}

-- The pieces, one after another.
abbrev pub joined : List (List ℕ) → List ℕ
joined [] = []
joined (p ∷ ps) = p ++ joined ps

-- The offset of each piece's end, if the first piece begins at `from`.
abbrev pub ends_from : ℕ → List (List ℕ) → List ℕ
ends_from from [] = []
ends_from from (p ∷ ps) = (from + length p) ∷ ends_from (from + length p) ps

-- The bytes cut at the ends, if the first byte is at offset `from`.
abbrev pub cut_from : ℕ → List ℕ → List ℕ → List (List ℕ)
cut_from from [] bytes = []
cut_from from (e ∷ es) bytes = take (e - from) bytes ∷ cut_from e es (drop (e - from) bytes)

-- The ends cut all of the bytes into pieces, and are the ends of these pieces.
pub record IsCut (bytes ends : List ℕ) : Type 0 where
  pub bytes_joined : bytes ≡ joined (cut_from 0 ends bytes)
  pub ends_placed : ends ≡ ends_from 0 (cut_from 0 ends bytes)

-- The encoding of a counted section without its id: a size prefix, the count of entries and the
-- entries.
unfoldable pub section_encoding : List (List ℕ) → List ℕ
section_encoding pieces = size_prefixed_encoding (unsigned_encoding (length pieces) ++ joined pieces)

-- The count and the size of the section are at most 2^32 - 1.
pub record IsEncodableSection (pieces : List (List ℕ)) : Type 0 where
  pub count : length pieces ≤ longest
  pub size : HasEncodableSize (unsigned_encoding (length pieces) ++ joined pieces)

-- The size of the section is more than 2^32 - 1.
abbrev pub IsOverlong : List (List ℕ) → Type 0
IsOverlong pieces = longest < length (unsigned_encoding (length pieces) ++ joined pieces)

-- The payload of a counted section: the count of its entries, and the entries.
abbrev pub SectionPayload : List (List ℕ) → List ℕ → Type 0
SectionPayload pieces bytes = bytes ≡ unsigned_encoding (length pieces) ++ joined pieces

-- The encoding of a counted section that fits is its size-prefixed payload.
pub section_sized : (pieces : List (List ℕ)) (bytes : List ℕ) → IsEncodableSection pieces → SectionPayload pieces bytes → IsSizePrefixed (section_encoding pieces) bytes
unfolding section_encoding
section_sized pieces bytes encodable e = record { is = ap size_prefixed_encoding (sym e); encodable = subst HasEncodableSize (sym e) encodable.size }
