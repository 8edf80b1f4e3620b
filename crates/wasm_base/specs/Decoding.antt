-- This file defines decoding: when bytes decode to one value alone, and when a format is
-- unambiguous.
use Rattle.std.specs.Prelude.{◌≡◌, ℕ, ◌≤◌, List, ◌∷◌, ◌++◌, length}
use Rattle.wasm_base.specs.Numbers.{Mode, Grammar, Below, minimal_of, padded_of, minimal, padded}
use Rattle.wasm_base.specs.Formats.{Encoding, Format}

-- ---- one encoding

-- `bytes` is an encoding of `x` in this mode, followed by `rest`.
pub record Decodes {X : Type 0} (F : Format X) (mode : Mode) (bytes : List ℕ) (x : X) (rest : List ℕ) : Type 0 where
  pub front : List ℕ
  pub split : bytes ≡ front ++ rest
  pub encodes : F mode front x

-- No value decodes from the front of the bytes in this mode.
pub record Rejects {X : Type 0} (F : Format X) (mode : Mode) (bytes : List ℕ) : Type 0 where
  pub none : (x : X) (rest : List ℕ) → Decodes F mode bytes x rest → ⊥

-- `encoding` is the one minimal encoding of `x`. In every mode, and whatever bytes follow, it
-- decodes to `x` alone, and decoding ends exactly after it.
pub record DecodesUniquely {X : Type 0} (F : Format X) (encoding : List ℕ) (x : X) : Type 0 where
  pub encodes : F minimal encoding x
  pub unique : (mode : Mode) (after : List ℕ) (y : X) (rest : List ℕ) → Decodes F mode (encoding ++ after) y rest → (y ≡ x) × (rest ≡ after)
  pub one : (other : List ℕ) → F minimal other x → other ≡ encoding

-- The same for a format that takes all of the bytes: `encoding` as a whole decodes to `x` alone.
pub record DecodesWhole {X : Type 0} (F : Format X) (encoding : List ℕ) (x : X) : Type 0 where
  pub encodes : F minimal encoding x
  pub unique : (mode : Mode) (y : X) → F mode encoding y → y ≡ x
  pub one : (other : List ℕ) → F minimal other x → other ≡ encoding

-- `encoding` is a possibly padded encoding of `x`. With padding allowed, and whatever bytes follow,
-- it decodes to `x` alone, and decoding ends exactly after it.
pub record DecodesUniquelyPadded {X : Type 0} (F : Format X) (encoding : List ℕ) (x : X) : Type 0 where
  pub encodes : F padded encoding x
  pub unique : (after : List ℕ) (y : X) (rest : List ℕ) → Decodes F padded (encoding ++ after) y rest → (y ≡ x) × (rest ≡ after)

-- The same for a format that takes all of the bytes: `encoding` is a possibly padded encoding of
-- `x`, and as a whole decodes to `x` alone.
pub record DecodesWholePadded {X : Type 0} (F : Format X) (encoding : List ℕ) (x : X) : Type 0 where
  pub encodes : F padded encoding x
  pub unique : (y : X) → F padded encoding y → y ≡ x

-- ---- all encodings of a format

-- Unambiguous: no two values, and no two lengths, decode from the front of the same bytes.
abbrev pub DeterminesPrefix : {X : Type 0} → Encoding X → Type 0
DeterminesPrefix {X} S = (s t r q : List ℕ) (x y : X) → S s x → S t y → s ++ r ≡ t ++ q → (x ≡ y) × (s ≡ t) × (r ≡ q)

-- Unambiguous as a whole: no two values have the same encoding.
abbrev pub DeterminesWhole : {X : Type 0} → Encoding X → Type 0
DeterminesWhole {X} S = (s : List ℕ) (x y : X) → S s x → S s y → x ≡ y

-- A value has at most one encoding.
abbrev pub HasOneEncoding : {X : Type 0} → Encoding X → Type 0
HasOneEncoding {X} S = (s t : List ℕ) (x : X) → S s x → S t x → s ≡ t

-- Every encoding by `S` is an encoding of the same value by `T`.
abbrev pub IsIncludedIn : {X : Type 0} → Encoding X → Encoding X → Type 0
IsIncludedIn {X} S T = (s : List ℕ) (x : X) → S s x → T s x

-- Every value that `S` encodes has an encoding by `T` that is at most as long.
abbrev pub ShrinksTo : {X : Type 0} → Encoding X → Encoding X → Type 0
ShrinksTo {X} S T = (s : List ℕ) (x : X) → S s x → (t : List ℕ) × T t x × (length t ≤ length s)

-- In each grammar a value that has a padded encoding has exactly one minimal encoding, which is at
-- most as long. A mode has all encodings of each mode that is `Below` it.
pub record HasEncodings {X : Type 0} (F : Format X) : Type 0 where
  pub one : (w : Grammar) → HasOneEncoding (F (minimal_of w))
  pub included : (m n : Mode) → Below m n → IsIncludedIn (F m) (F n)
  pub shorter : (w : Grammar) → ShrinksTo (F (padded_of w)) (F (minimal_of w))

-- A format whose encodings determine their own end is unambiguous in every mode, with encodings as
-- `HasEncodings` states.
pub record Unambiguous {X : Type 0} (F : Format X) : Type 0 where
  pub unique : (mode : Mode) → DeterminesPrefix (F mode)
  pub encodings : HasEncodings F

-- A format that takes all of the bytes is unambiguous in every mode, with encodings as
-- `HasEncodings` states.
pub record UnambiguousWhole {X : Type 0} (F : Format X) : Type 0 where
  pub whole : (mode : Mode) → DeterminesWhole (F mode)
  pub encodings : HasEncodings F

-- Each value that fits has the minimal encoding `encoding x`.
pub record HasMinimalEncodings {X : Type 0} (F : Format X) (Encodable : X → Type 0) (encoding : X → List ℕ) : Type 0 where
  pub encodes : (x : X) → Encodable x → F minimal (encoding x) x

-- With padding allowed a format is unambiguous, and it keeps every minimal encoding.
pub record UnambiguousPadded {X : Type 0} (F : Format X) : Type 0 where
  pub unique : DeterminesPrefix (F padded)
  pub included : IsIncludedIn (F minimal) (F padded)

-- The same for a format that takes all of the bytes.
pub record UnambiguousWholePadded {X : Type 0} (F : Format X) : Type 0 where
  pub whole : DeterminesWhole (F padded)
  pub included : IsIncludedIn (F minimal) (F padded)

-- Each encoding, in any mode, has a first byte with the property.
abbrev pub BeginsWith : {X : Type 0} → (ℕ → Type 0) → Format X → Type 0
BeginsWith {X} P F = (mode : Mode) (s : List ℕ) (x : X) → F mode s x → (b : ℕ) × (rest : List ℕ) × (s ≡ b ∷ rest) × P b
