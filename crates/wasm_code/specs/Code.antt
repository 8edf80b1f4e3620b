-- This file defines the code section. Core specification, Binary Format, Modules, Code Section.
use Rattle.std.specs.Prelude.{◌≡◌, ℕ, List, map}
use Rattle.std.specs.List.{AllZip}
use Rattle.wasm_base.specs.Words.{DecodesBack, DecodesBackPadded, Format, any_bytes, size_prefixed, vec, SectionDecoding, decoding_of, padded_decoding_of, Mode, minimal, padded, number_of}
use Rattle.wasm_base.specs.Words.{size_prefixed_encoding}
use Rattle.wasm_code.specs.Bodies.{Body, body}
use Rattle.wasm_base.specs.declared.section_id.SectionId.TheVariants as ids

-- The code section with opaque bodies: a size-prefixed vector of size-prefixed bytes.
abbrev pub raw_code : Format (List (List ℕ))
raw_code = size_prefixed (vec (size_prefixed any_bytes))

-- The code section: a size-prefixed vector of size-prefixed bodies.
abbrev pub code_section : Format (List Body)
code_section = size_prefixed (vec (size_prefixed body))

-- The entries are these raw bodies, each with its size prefix.
abbrev pub ContainsBodies : List (List ℕ) → List (List ℕ) → Type 0
ContainsBodies entries bodies = entries ≡ map size_prefixed_encoding bodies

-- The entries are raw bodies with their size prefixes, and the raw bodies encode these bodies in
-- this mode.
pub record EncodesBodiesIn (mode : Mode) (entries : List (List ℕ)) (bodies : List Body) : Type 0 where
  pub raw : List (List ℕ)
  pub held : ContainsBodies entries raw
  pub encodes : AllZip (body mode) raw bodies

-- The entries minimally encode these bodies.
abbrev pub EncodesBodies : List (List ℕ) → List Body → Type 0
EncodesBodies entries bodies = EncodesBodiesIn minimal entries bodies

-- The entries encode these bodies, possibly padded.
abbrev pub EncodesBodiesPadded : List (List ℕ) → List Body → Type 0
EncodesBodiesPadded entries bodies = EncodesBodiesIn padded entries bodies

-- The headline: the bytes decode to the raw bodies that the section holds alone. If these encode
-- some bodies, minimally or padded, the bytes decode to those bodies alone.
pub record DecodesCode {M : Type 0} (holds : (List (List ℕ) → Type 0) → M → Type 0) (section : M) (encoding : List ℕ) : Type 0 where
  pub raw : DecodesBack raw_code (λ raw. holds (λ entries. ContainsBodies entries raw) section) encoding
  pub bodies : DecodesBack code_section (λ bodies. holds (λ entries. EncodesBodies entries bodies) section) encoding
  pub padded : DecodesBackPadded code_section (λ bodies. holds (λ entries. EncodesBodiesPadded entries bodies) section) encoding

-- The code section that decodes to these raw bodies.
abbrev pub raw_code_decoding : List (List ℕ) → SectionDecoding
raw_code_decoding bodies = decoding_of (number_of ids.Code) (vec (size_prefixed any_bytes)) bodies

-- The code section that minimally encodes these bodies.
abbrev pub code_decoding : List Body → SectionDecoding
code_decoding bodies = decoding_of (number_of ids.Code) (vec (size_prefixed body)) bodies

-- The code section that encodes these bodies, possibly padded.
abbrev pub padded_code_decoding : List Body → SectionDecoding
padded_code_decoding bodies = padded_decoding_of (number_of ids.Code) (vec (size_prefixed body)) bodies
