-- This file defines formats, which relate bytes to the values that they encode, and the combinators
-- that build formats.
use Rattle.std.specs.Prelude.{◌≡◌, ◌⊎◌, ℕ, ◌+◌, ◌*◌, ◌<◌, List, [], ◌∷◌, ◌++◌, length, IsUtf8, ℤ, pos, Option, Some, None, Bool, true, false, cond, ◌==◌, suc, ◌-◌, ◌^◌, negsuc}
use Rattle.std.specs.List.{AllByRecursion}
use Rattle.wasm_base.specs.Numbers.{Mode, minimal, padded, standard_minimal, standard, Unsigned, Signed}

-- A relation of bytes to the values that they encode.
abbrev pub Encoding : Type 0 → Type 1
Encoding X = List ℕ → X → Type 0

-- A format: the encodings of values, for each mode.
abbrev pub Format : Type 0 → Type 1
Format X = Mode → Encoding X

-- ---- numbers and bytes

-- An unsigned number of 32 bits: an index, a count or a size. Core specification, Binary Format,
-- Values, Integers.
abbrev pub u32 : Format ℕ
u32 mode = Unsigned mode 32

-- An unsigned number of 64 bits.
abbrev pub u64 : Format ℕ
u64 mode = Unsigned mode 64

-- A signed number of 32 bits.
abbrev pub s32 : Format ℤ
s32 mode = Signed mode 32

-- A signed number of 64 bits.
abbrev pub s64 : Format ℤ
s64 mode = Signed mode 64

-- A number below 2^32, encoded as a signed number of 33 bits. Core specification, Binary Format,
-- Types, Heap Types.
abbrev pub s33 : Format ℕ
s33 mode s n = Signed mode 33 s (pos n)

-- One byte. The format does not say that it is below 256.
abbrev pub byte : Format ℕ
byte mode s b = s ≡ b ∷ []

-- A sequence of `n` bytes.
abbrev pub raw_bytes : ℕ → Format (List ℕ)
raw_bytes n mode s x = (s ≡ x) × (length x ≡ n)

-- All of the bytes.
abbrev pub any_bytes : Format (List ℕ)
any_bytes mode s x = s ≡ x

-- Each number is below 256.
abbrev pub AreBytes : List ℕ → Type 0
AreBytes = AllByRecursion (λ b. b < 0x100)

-- The little-endian sum of the bytes: the byte at offset i has weight 256^i.
abbrev pub bytes_sum : List ℕ → ℕ
bytes_sum [] = 0
bytes_sum (b ∷ bs) = b + 256 * bytes_sum bs

-- A number in `n` little-endian bytes. Core specification, Binary Format, Values, Floating-Point.
abbrev pub little_endian : ℕ → Format ℕ
little_endian n mode s v = (bytes_sum s ≡ v) × AreBytes s × (length s ≡ n)

-- ---- combinators

-- Exactly these bytes, which encode exactly this value.
abbrev pub fixed : {X : Type 0} → List ℕ → X → Format X
fixed bytes v mode s x = (s ≡ bytes) × (x ≡ v)

-- No bytes encode any value.
abbrev pub impossible : {X : Type 0} → Format X
impossible mode s x = ⊥

-- The values of `F` with the property.
abbrev pub such : {X : Type 0} → (X → Type 0) → Format X → Format X
such P F mode s x = F mode s x × P x

-- `F` if the test holds, and `G` otherwise.
abbrev pub when : {X : Type 0} → Bool → Format X → Format X → Format X
when test F G = cond test F G

-- The images by `f` of the values of `F`.
abbrev pub mapped : {X Y : Type 0} → (X → Y) → Format X → Format Y
mapped {X} f F mode s y = (x : X) × (f x ≡ y) × F mode s x

-- A value of `F`, then a value of `G`, whose format may depend on the first value.
pub record Then {X Y : Type 0} (F : Format X) (G : X → Format Y) (mode : Mode) (s : List ℕ) (p : X × Y) : Type 0 where
  pub front : List ℕ
  pub back : List ℕ
  pub joined : s ≡ front ++ back
  pub first : F mode front p.0
  pub second : G p.0 mode back p.1

-- A value of `F`, then a value of `G`.
abbrev pub pair : {X Y : Type 0} → Format X → Format Y → Format (X × Y)
pair F G = Then F (λ x. G)

-- A tag, then the value whose format the tag selects.
abbrev pub tagged : {X Y : Type 0} → Format X → (X → Format Y) → Format Y
tagged F G = mapped (λ p. p.1) (Then F G)

-- The format that the list has for the tag `b`, or `other b` if the list has none.
abbrev pub choice : {X : Type 0} → List (ℕ × Format X) → (ℕ → Format X) → ℕ → Format X
choice [] other b = other b
choice (c ∷ cs) other b = when (b == c.0) c.1 (choice cs other b)

-- These bytes, then a value of `F`.
abbrev pub prefixed : {X : Type 0} → List ℕ → Format X → Format X
prefixed bytes F = tagged (fixed bytes (tt {0})) (λ u. F)

-- Values of `F` one after another, without a count.
abbrev pub members : {X : Type 0} → Format X → Format (List X)
members F mode s [] = s ≡ []
members F mode s (x ∷ xs) = (front back : List ℕ) × (s ≡ front ++ back) × F mode front x × members F mode back xs

-- A vector (the standard's "list"): the count of its members, then the members. Core specification,
-- Binary Format, Conventions.
abbrev pub vec : {X : Type 0} → Format X → Format (List X)
vec F mode s xs = Then u32 (λ n. members F) mode s (length xs, xs)

-- A size prefix, then a payload of exactly that many bytes, which as a whole encode one value.
pub record SizePrefixed {X : Type 0} (F : Format X) (mode : Mode) (s : List ℕ) (x : X) : Type 0 where
  pub front : List ℕ
  pub content : List ℕ
  pub joined : s ≡ front ++ content
  pub size : u32 mode front (length content)
  pub encodes : F mode content x

-- Size-prefixed values of `F`, as a format.
abbrev pub size_prefixed : {X : Type 0} → Format X → Format X
size_prefixed F = SizePrefixed F

-- Values of `F` one after another, then the byte `stop`.
abbrev pub ended : {X : Type 0} → ℕ → Format X → Format (List X)
ended stop F mode s [] = s ≡ stop ∷ []
ended stop F mode s (x ∷ xs) = (front back : List ℕ) × (s ≡ front ++ back) × F mode front x × ended stop F mode back xs

-- A value of `F` if the flag is set, and no bytes otherwise.
abbrev pub optional : {X : Type 0} → Bool → Format X → Format (Option X)
optional flag F = when flag (mapped Some F) (fixed [] None)

-- Whether an optional value is present.
abbrev pub is_given : {X : Type 0} → Option X → Bool
is_given None = false
is_given (Some x) = true

-- The encodings of `F` and those of `G`.
abbrev pub one_of : {X : Type 0} → Format X → Format X → Format X
one_of F G mode s x = F mode s x ⊎ G mode s x

-- One byte, the code of the value.
abbrev pub coded : {X : Type 0} → (X → ℕ) → Format X
coded code mode s x = s ≡ code x ∷ []

-- An unsigned number of 32 bits, the code of the value.
abbrev pub numbered : {X : Type 0} → (X → ℕ) → Format X
numbered code mode s x = u32 mode s (code x)

-- The encodings of `x`, as a format without a value.
abbrev pub just : {X : Type 0} → X → Format X → Format (Unit {0})
just x F mode s u = F mode s x

-- An encoding of `x`, then a value of `G`.
abbrev pub after : {X Y : Type 0} → X → Format X → Format Y → Format Y
after x F G = tagged (just x F) (λ u. G)

-- `F` in the two modes of the builders' grammar; in the standard's grammar, `G` for minimal
-- encodings and `H` for padded ones.
abbrev pub by_mode : {X : Type 0} → Format X → Format X → Format X → Format X
by_mode F G H minimal = F minimal
by_mode F G H padded = F padded
by_mode F G H standard_minimal = G standard_minimal
by_mode F G H standard = H standard

-- The bytes that follow the byte `b` in an encoding of `F`.
abbrev pub after_byte : {X : Type 0} → Format X → ℕ → Format X
after_byte F b mode s x = F mode (b ∷ s) x

-- ---- names and modules

-- A name: a length, then that many bytes of UTF-8. Core specification, Binary Format, Values,
-- Names.
abbrev pub name : Format (List ℕ)
name = such IsUtf8 (size_prefixed any_bytes)

-- A custom section without its id: a size prefix, then a name and data up to the last byte. Core
-- specification, Binary Format, Modules, Custom Section.
abbrev pub custom : Format (List ℕ × List ℕ)
custom = size_prefixed (pair name any_bytes)

-- The magic and the version of a module. Core specification, Binary Format, Modules.
abbrev pub header : List ℕ
header = 0x00 ∷ 0x61 ∷ 0x73 ∷ 0x6D ∷ 0x01 ∷ 0x00 ∷ 0x00 ∷ 0x00 ∷ []

-- A section with an opaque payload: an id byte, then size-prefixed bytes. Core specification,
-- Binary Format, Modules, Sections.
abbrev pub any_section : Format (ℕ × List ℕ)
any_section = pair byte (size_prefixed any_bytes)

-- A module of opaque sections: the header, then sections up to the last byte.
abbrev pub wasm_module : Format (List (ℕ × List ℕ))
wasm_module = prefixed header (members any_section)

-- ---- vectors of 128 bits

-- The two's complement of an integer, of this many bits.
abbrev pub twos_complement : ℕ → ℤ → ℕ
twos_complement bits (pos n) = n
twos_complement bits (negsuc n) = 2 ^ bits - suc n

-- A signed number of 128 bits.
abbrev pub IsVector : ℤ → Type 0
IsVector (pos n) = n < 2 ^ 127
IsVector (negsuc n) = n < 2 ^ 127

-- A vector of 128 bits: 16 little-endian bytes in two's complement.
abbrev pub vector_format : Format ℤ
vector_format mode s v = little_endian 16 mode s (twos_complement 128 v) × IsVector v
