-- This file defines custom sections: a size-prefixed name and data. Core specification, Binary
-- Format, Modules, Custom Section.
use Rattle.std.specs.Prelude.{◌≡◌, ℕ, List, ◌∷◌, ◌++◌, Bool, ◌&&◌, nat_eq}
use Rattle.std.proofs.Common.{sym, ap, subst}
use Rattle.std.specs.List.{starts_with}
use Rattle.std.specs.Str.{bytes_eq}
use Rattle.wasm_base.specs.Words.{items_of, utf8_of, Format, after, size_prefixed, name, pair, any_bytes, size_prefixed_encoding, HasEncodableSize, IsSizePrefixed, SectionDecoding, decoding_of}
use Rattle.wasm_base.specs.Words.{number_of}
use Rattle.wasm_custom.specs.declared.custom_section.CustomSection.{CustomSection}
use Rattle.wasm_base.specs.declared.section_id.SectionId.TheVariants as ids

-- The payload of a custom section of this name, whose data encode a value of `F`.
abbrev pub named_payload : {X : Type 0} → List ℕ → Format X → Format X
named_payload n F = after n name F

-- The custom section of this name, without its id, whose data encode a value of `F`.
abbrev pub named_section : {X : Type 0} → List ℕ → Format X → Format X
named_section n F = size_prefixed (named_payload n F)

-- The encoding of the custom section of this name and these data, without its id.
unfoldable pub named_encoding : List ℕ → List ℕ → List ℕ
named_encoding n content = size_prefixed_encoding (size_prefixed_encoding n ++ content)

-- The size of the custom section is at most 2^32 - 1.
abbrev pub IsEncodableNamed : List ℕ → List ℕ → Type 0
IsEncodableNamed n content = HasEncodableSize (size_prefixed_encoding n ++ content)

-- The payload of a custom section: its name and its data.
abbrev pub NamedPayload : List ℕ → List ℕ → List ℕ → Type 0
NamedPayload n content bytes = bytes ≡ size_prefixed_encoding n ++ content

-- The encoding of a custom section that fits is its size-prefixed payload.
pub named_sized : (n content bytes : List ℕ) → IsEncodableNamed n content → NamedPayload n content bytes → IsSizePrefixed (named_encoding n content) bytes
unfolding named_encoding
named_sized n content bytes encodable e = record { is = ap size_prefixed_encoding (sym e); encodable = subst HasEncodableSize (sym e) encodable }

-- Whether two sections have the same name and the same data.
abbrev pub same_section : {A : Type 0} → CustomSection A → CustomSection A → Bool
same_section s t = bytes_eq (utf8_of s.name) (utf8_of t.name) && bytes_eq (items_of s.bytes) (items_of t.bytes)

-- The encoding of a subsection: an id, then the size-prefixed content.
abbrev pub subsection_encoding : ℕ → List ℕ → List ℕ
subsection_encoding id content = id ∷ size_prefixed_encoding content

-- Whether the name begins with these bytes.
abbrev pub begins_with : List ℕ → List ℕ → Bool
begins_with front n = starts_with nat_eq n front

-- The custom section whose payload decodes to `x`.
abbrev pub decoding_as : {X : Type 0} → Format X → X → SectionDecoding
decoding_as F x = decoding_of (number_of ids.Custom) F x

-- The custom section that decodes to this name and these data.
abbrev pub custom_decoding : List ℕ → List ℕ → SectionDecoding
custom_decoding n content = decoding_as (pair name any_bytes) (n, content)
