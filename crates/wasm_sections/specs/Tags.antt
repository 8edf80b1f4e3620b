-- This file defines tag types, their encoding and their format. Core specification, Binary Format,
-- Modules, Tag Section.
use Rattle.std.specs.Prelude.{ℕ, ◌^◌, ◌<◌, List, ◌∷◌}
use Rattle.wasm_base.specs.Words.{Kind, ContainsItems, Format, u32, coded, mapped, pair, vec, unsigned_encoding, SectionDecoding, decoding_of, number_of}
use Rattle.wasm_sections.specs.declared.tag.TagKind.{TagKind}
use Rattle.wasm_sections.specs.declared.tag.TagKind.TheVariants.{Exception}
use Rattle.wasm_sections.specs.declared.tag.TagType.{TagType}
use Rattle.wasm_base.specs.declared.section_id.SectionId.TheVariants as ids

-- The byte for the kind of a tag.
abbrev pub tag_code : TagKind → ℕ
tag_code Exception = 0x00

-- The encoding of a tag type: the byte of its kind, and the index of a function type.
abbrev pub tag_encoding : TagType → List ℕ
tag_encoding t = tag_code t.kind ∷ unsigned_encoding t.func_type_idx

-- The tag type is well-formed: its index is below 2^32.
abbrev pub IsTag : TagType → Type 0
IsTag t = t.func_type_idx < 2 ^ 32

-- The tag type of this kind and this index of a function type.
abbrev pub tag_of : TagKind × ℕ → TagType
tag_of parts = record { kind = parts.0; func_type_idx = parts.1 }

-- A tag type: a byte for its kind, and the index of a function type.
abbrev pub tag_type : Format TagType
tag_type = mapped tag_of (pair (coded tag_code) u32)

-- The kind of tag types.
abbrev pub tag_items : Kind TagType TagType
tag_items = record { encoding = tag_encoding; IsWellFormed = IsTag; IsWellFormedPadded = IsTag; normal_form = λ tag. tag; format = tag_type }

-- The pieces encode these tag types.
abbrev pub ContainsTags : List (List ℕ) → List TagType → Type 0
ContainsTags = ContainsItems tag_items

-- The tag section that decodes to these tag types.
abbrev pub tag_decoding : List TagType → SectionDecoding
tag_decoding tags = decoding_of (number_of ids.Tag) (vec tag_type) tags
