-- This file defines the sections that a module decodes to.
use Rattle.std.specs.Prelude.{◌≡◌, ℕ, List, [], ◌∷◌, ◌++◌, ⊤}
use Rattle.wasm_base.specs.Formats.{Format, any_bytes, size_prefixed, wasm_module}
use Rattle.wasm_base.specs.Decoding.{DecodesUniquely, DecodesUniquelyPadded, DecodesWhole, DecodesWholePadded}
use Rattle.wasm_base.specs.Encodings.{IsSizePrefixed}

-- A section as it decodes: its id, and a property of its payload.
abbrev pub SectionDecoding : Type 1
SectionDecoding = ℕ × (List ℕ → Type 0)

-- The section of this id whose payload decodes to `x` alone, and is its one minimal encoding.
abbrev pub decoding_of : {X : Type 0} → ℕ → Format X → X → SectionDecoding
decoding_of id F x = (id, λ payload. DecodesWhole F payload x)

-- The section of this id whose payload is a possibly padded encoding of `x`, and decodes to `x`
-- alone.
abbrev pub padded_decoding_of : {X : Type 0} → ℕ → Format X → X → SectionDecoding
padded_decoding_of id F x = (id, λ payload. DecodesWholePadded F payload x)

-- The section of this id whose payload is these bytes.
abbrev pub raw_decoding : ℕ → List ℕ → SectionDecoding
raw_decoding id bytes = decoding_of id any_bytes bytes

-- The sections have these ids and properties, one by one and in order.
abbrev pub AreDecoded : List SectionDecoding → List (ℕ × List ℕ) → Type 0
AreDecoded [] [] = ⊤
AreDecoded [] (s ∷ sections) = ⊥
AreDecoded (r ∷ decodings) [] = ⊥
AreDecoded (r ∷ decodings) (s ∷ sections) = (s.0 ≡ r.0) × r.1 s.1 × AreDecoded decodings sections

-- The bytes decode to a module of exactly these sections: each has the id, and its payload the
-- property.
pub record DecodesSections (decodings : List SectionDecoding) (bytes : List ℕ) : Type 0 where
  pub sections : List (ℕ × List ℕ)
  pub read : DecodesWhole wasm_module bytes sections
  pub payloads : AreDecoded decodings sections

-- The bytes gain an encoding that decodes to `x` alone.
pub record GainsDecoding {X : Type 0} (F : Format X) (x : X) (old new : List ℕ) : Type 0 where
  pub encoding : List ℕ
  pub added : new ≡ old ++ encoding
  pub unique : DecodesUniquely F encoding x

-- The bytes gain a possibly padded encoding that decodes to `x` alone.
pub record GainsDecodingPadded {X : Type 0} (F : Format X) (x : X) (old new : List ℕ) : Type 0 where
  pub encoding : List ℕ
  pub added : new ≡ old ++ encoding
  pub unique : DecodesUniquelyPadded F encoding x

-- If size-prefixed bytes decode to `x` alone, their payload decodes to `x` alone.
pub record DecodesPayloads {X : Type 0} (F : Format X) : Type 0 where
  pub unique : (encoding payload : List ℕ) (x : X) → IsSizePrefixed encoding payload → DecodesUniquely (size_prefixed F) encoding x → DecodesWhole F payload x

-- The same for padded LEB128.
pub record DecodesPayloadsPadded {X : Type 0} (F : Format X) : Type 0 where
  pub unique : (encoding payload : List ℕ) (x : X) → IsSizePrefixed encoding payload → DecodesUniquelyPadded (size_prefixed F) encoding x → DecodesWholePadded F payload x
