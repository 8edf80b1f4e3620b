-- This file defines exports, their encoding and their format. Core specification, Binary Format,
-- Modules, Export Section.
use Rattle.std.specs.Prelude.{ℕ, ◌^◌, ◌<◌, List, [], ◌∷◌, ◌++◌, IsUtf8}
use Rattle.wasm_base.specs.Words.{Kind, ContainsItems, Format, u32, name, coded, mapped, pair, vec, unsigned_encoding, size_prefixed_encoding, HasEncodableSize, SectionDecoding, decoding_of}
use Rattle.wasm_base.specs.Words.{number_of}
use Rattle.wasm_sections.specs.declared.export.Export.{Export}
use Rattle.wasm_sections.specs.declared.export.ExportKind.{ExportKind}
use Rattle.wasm_sections.specs.declared.export.ExportKind.TheVariants.{Func, Table, Memory, Global, Tag}
use Rattle.wasm_base.specs.declared.section_id.SectionId.TheVariants as ids

-- The byte for the kind of an export.
abbrev pub kind_code : ExportKind → ℕ
kind_code Func = 0x00
kind_code Table = 0x01
kind_code Memory = 0x02
kind_code Global = 0x03
kind_code Tag = 0x04

-- The encoding of an export: its name, the byte of its kind and its index.
abbrev pub export_encoding : Export → List ℕ
export_encoding e = size_prefixed_encoding e.name.now ++ (kind_code e.kind ∷ [] ++ unsigned_encoding e.index)

-- The length of the name is at most 2^32 - 1.
abbrev pub IsEncodableExport : Export → Type 0
IsEncodableExport e = HasEncodableSize e.name.now

-- The export is well-formed: its name is UTF-8, and its index is below 2^32.
pub record IsExport (e : Export) : Type 0 where
  pub name : IsUtf8 e.name.now
  pub index : e.index < 2 ^ 32

-- An export: its name, the kind of the exported entity and its index.
pub record ExportItem : Type 0 where
  pub name : List ℕ
  pub kind : ExportKind
  pub index : ℕ

-- The item that an export encodes.
abbrev pub item_of : Export → ExportItem
item_of e = record { name = e.name.now; kind = e.kind; index = e.index }

-- The export of this name, kind and index.
abbrev pub export_of : List ℕ × (ExportKind × ℕ) → ExportItem
export_of parts = record { name = parts.0; kind = parts.1.0; index = parts.1.1 }

-- An export: a name, a kind and an index.
abbrev pub export : Format ExportItem
export = mapped export_of (pair name (pair (coded kind_code) u32))

-- The kind of exports.
abbrev pub export_items : Kind Export ExportItem
export_items = record { encoding = export_encoding; IsWellFormed = IsExport; IsWellFormedPadded = IsExport; normal_form = item_of; format = export }

-- The pieces encode these exports.
abbrev pub ContainsExports : List (List ℕ) → List ExportItem → Type 0
ContainsExports = ContainsItems export_items

-- The export section that decodes to these exports.
abbrev pub export_decoding : List ExportItem → SectionDecoding
export_decoding exports = decoding_of (number_of ids.Export) (vec export) exports
