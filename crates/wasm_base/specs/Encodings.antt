-- This file defines the encodings of vectors, size-prefixed bytes, sections and modules, and when
-- their counts and sizes fit.
use Rattle.std.specs.Prelude.{◌≡◌, ℕ, zero, suc, ◌/◌, ◌%◌, ◌≤◌, List, [], ◌∷◌, ◌++◌, length, Option, Some, None}
use Rattle.std.proofs.Common.{sym, ap, subst}
use Rattle.std.specs.List.{All, flat_map}
use Rattle.wasm_base.specs.Numbers.{unsigned_encoding}
use Rattle.wasm_base.specs.Formats.{header}

-- The largest count, length or size that an encoding can have: 2^32 - 1.
abbrev pub longest : ℕ
longest = 4294967295

-- The encoding of a vector: a count, then the members.
abbrev pub vec_encoding : {T : Type 0} → (T → List ℕ) → List T → List ℕ
vec_encoding encoding xs = unsigned_encoding (length xs) ++ flat_map encoding xs

-- A vector of at most 2^32 - 1 members, each of which fits.
pub record IsEncodableVec {T : Type 0} (Encodable : T → Type 0) (xs : List T) : Type 0 where
  pub count : length xs ≤ longest
  pub members : All Encodable xs

-- The encoding of an optional value: no bytes if there is none.
abbrev pub optional_encoding : {X : Type 0} → (X → List ℕ) → Option X → List ℕ
optional_encoding encoding None = []
optional_encoding encoding (Some x) = encoding x

-- The encoding of size-prefixed bytes: a size, then that many bytes.
abbrev pub size_prefixed_encoding : List ℕ → List ℕ
size_prefixed_encoding bytes = unsigned_encoding (length bytes) ++ bytes

-- The size of the bytes is at most 2^32 - 1.
abbrev pub HasEncodableSize : List ℕ → Type 0
HasEncodableSize bytes = length bytes ≤ longest

-- A number in `n` little-endian bytes.
abbrev pub little_endian_encoding : ℕ → ℕ → List ℕ
little_endian_encoding zero v = []
little_endian_encoding (suc n) v = v % 256 ∷ little_endian_encoding n (v / 256)

-- The encoding of a section with an opaque payload: its id, then the size-prefixed payload.
abbrev pub any_section_encoding : ℕ × List ℕ → List ℕ
any_section_encoding section = section.0 ∷ size_prefixed_encoding section.1

-- The size of the payload is at most 2^32 - 1.
abbrev pub IsEncodableAnySection : ℕ × List ℕ → Type 0
IsEncodableAnySection section = HasEncodableSize section.1

-- The encoding of a module: the header, then the sections one after another.
unfoldable pub module_encoding : List (ℕ × List ℕ) → List ℕ
module_encoding sections = header ++ flat_map any_section_encoding sections

-- Each section of the module fits.
abbrev pub IsEncodableModule : List (ℕ × List ℕ) → Type 0
IsEncodableModule sections = All IsEncodableAnySection sections

-- `encoding` is exactly these bytes after their size prefix, and their size fits.
pub record IsSizePrefixed (encoding bytes : List ℕ) : Type 0 where
  pub is : encoding ≡ size_prefixed_encoding bytes
  pub encodable : HasEncodableSize bytes

-- Size-prefixed bytes of a fitting size satisfy `IsSizePrefixed`.
pub raw_sized : (given bytes : List ℕ) → HasEncodableSize given → bytes ≡ given → IsSizePrefixed (size_prefixed_encoding given) bytes
raw_sized given bytes encodable e = record { is = sym (ap size_prefixed_encoding e); encodable = subst HasEncodableSize (sym e) encodable }
