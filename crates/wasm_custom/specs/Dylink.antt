-- This file defines the section of a dynamic library, its encoding and its format. Tool
-- conventions, WebAssembly Dynamic Linking, The "dylink.0" Section.
use Rattle.std.specs.Prelude.{ℕ, ◌^◌, ◌<◌, List, [], ◌∷◌, ◌++◌, codes, map, false}
use Rattle.wasm_base.specs.Words.{Kind, ContainsItems, Format, u32, byte, name, any_bytes, impossible, fixed, mapped, pair, tagged, choice, by_mode, vec, size_prefixed, IsEncodableName, unsigned_encoding}
use Rattle.wasm_base.specs.Words.{size_prefixed_encoding, vec_encoding, IsEncodableVec, SectionDecoding}
use Rattle.wasm_custom.specs.Customs.{subsection_encoding, named_payload, decoding_as}
use Rattle.wasm_custom.specs.Entries.{entries}
use Rattle.wasm_custom.specs.Lists.{IsListOf}
use Rattle.wasm_custom.specs.declared.dylink_symbols.DylinkMemory.{DylinkMemory}
use Rattle.wasm_custom.specs.declared.dylink_symbols.DylinkExport as read_export
use Rattle.wasm_custom.specs.declared.dylink_symbols.DylinkImport as read_import
use Rattle.wasm_custom.specs.declared.dylink.DylinkItem as read
use Rattle.wasm_custom.specs.declared.dylink.DylinkItem.TheVariants as items

-- ---- memory and table

-- The encoding of a library's requirements: the size of its memory and the exponent of the
-- memory's alignment, then those of its table.
abbrev pub needs_encoding : DylinkMemory → List ℕ
needs_encoding m = (unsigned_encoding m.memory_size ++ unsigned_encoding m.memory_alignment) ++ (unsigned_encoding m.table_size ++ unsigned_encoding m.table_alignment)

-- The sizes and the exponents of the alignments are in range.
pub record AreNeeds (m : DylinkMemory) : Type 0 where
  pub memory_size : m.memory_size < 2 ^ 32
  pub memory_alignment : m.memory_alignment < 2 ^ 32
  pub table_size : m.table_size < 2 ^ 32
  pub table_alignment : m.table_alignment < 2 ^ 32

-- The memory and the table of these sizes and exponents of alignments.
abbrev pub needs_of : (ℕ × ℕ) × (ℕ × ℕ) → DylinkMemory
needs_of p = record { memory_size = p.0.0; memory_alignment = p.0.1; table_size = p.1.0; table_alignment = p.1.1 }

-- Sizes and exponents of alignments: of the memory, then of the table.
abbrev pub needs : Format DylinkMemory
needs = mapped needs_of (pair (pair u32 u32) (pair u32 u32))

-- ---- names

-- The pieces are the encodings of these names.
abbrev pub AreNames : List (List ℕ) → List (List ℕ) → Type 0
AreNames = IsListOf size_prefixed_encoding IsEncodableName

-- ---- exports

-- Flags of an exported symbol: its name and its flags.
pub record DylinkExport : Type 0 where
  pub name : List ℕ
  pub flags : ℕ

-- The encoding of the flags of an exported symbol: its name and its flags.
abbrev pub export_flags_encoding : DylinkExport → List ℕ
export_flags_encoding e = size_prefixed_encoding e.name ++ unsigned_encoding e.flags

-- The name is UTF-8 of at most 2^32 - 1 bytes, and the flags are in range.
pub record IsDylinkExport (e : DylinkExport) : Type 0 where
  pub name : IsEncodableName e.name
  pub flags : e.flags < 2 ^ 32

-- The exported symbol of this name and these flags.
abbrev pub export_flags_of : List ℕ × ℕ → DylinkExport
export_flags_of p = record { name = p.0; flags = p.1 }

-- Flags of an exported symbol: a name and flags.
abbrev pub export_flags : Format DylinkExport
export_flags = mapped export_flags_of (pair name u32)

-- The pieces are the encodings of these exported symbols.
abbrev pub AreDylinkExports : List (List ℕ) → List DylinkExport → Type 0
AreDylinkExports = IsListOf export_flags_encoding IsDylinkExport

-- ---- imports

-- Flags of an imported symbol: the name of its module, its name and its flags.
pub record DylinkImport : Type 0 where
  pub module_name : List ℕ
  pub name : List ℕ
  pub flags : ℕ

-- The encoding of the flags of an imported symbol: the name of its module, its name and its flags.
abbrev pub import_flags_encoding : DylinkImport → List ℕ
import_flags_encoding i = size_prefixed_encoding i.module_name ++ (size_prefixed_encoding i.name ++ unsigned_encoding i.flags)

-- The names are UTF-8 of at most 2^32 - 1 bytes, and the flags are in range.
pub record IsDylinkImport (i : DylinkImport) : Type 0 where
  pub module_name : IsEncodableName i.module_name
  pub name : IsEncodableName i.name
  pub flags : i.flags < 2 ^ 32

-- The imported symbol of this module, this name and these flags.
abbrev pub import_flags_of : List ℕ × (List ℕ × ℕ) → DylinkImport
import_flags_of p = record { module_name = p.0; name = p.1.0; flags = p.1.1 }

-- Flags of an imported symbol: the name of its module, a name and flags.
abbrev pub import_flags : Format DylinkImport
import_flags = mapped import_flags_of (pair name (pair name u32))

-- The pieces are the encodings of these imported symbols.
abbrev pub AreDylinkImports : List (List ℕ) → List DylinkImport → Type 0
AreDylinkImports = IsListOf import_flags_encoding IsDylinkImport

-- ---- subsections

-- A subsection: the memory and the table, the libraries that are needed, flags of exports and of
-- imports, the folders in which the loader searches for libraries, or the id and the content of any
-- other subsection.
pub data DylinkItem : Type 0 where
  Memory : DylinkMemory → DylinkItem
  Needed : List (List ℕ) → DylinkItem
  ExportFlags : List DylinkExport → DylinkItem
  ImportFlags : List DylinkImport → DylinkItem
  RuntimePath : List (List ℕ) → DylinkItem
  OtherDylink : ℕ → List ℕ → DylinkItem

-- The encoding of a subsection: its id, from 1 for the memory and the table to 5 for folders, and
-- its size-prefixed content.
abbrev pub dylink_encoding : DylinkItem → List ℕ
dylink_encoding (Memory m) = subsection_encoding 1 (needs_encoding m)
dylink_encoding (Needed names) = subsection_encoding 2 (vec_encoding size_prefixed_encoding names)
dylink_encoding (ExportFlags exports) = subsection_encoding 3 (vec_encoding export_flags_encoding exports)
dylink_encoding (ImportFlags imports) = subsection_encoding 4 (vec_encoding import_flags_encoding imports)
dylink_encoding (RuntimePath paths) = subsection_encoding 5 (vec_encoding size_prefixed_encoding paths)
dylink_encoding (OtherDylink id content) = subsection_encoding id content

-- The subsection of a `DylinkSection` is well-formed: its items are well-formed, and their number
-- is at most 2^32 - 1. No other subsection is one of a `DylinkSection`.
abbrev pub IsDylink : DylinkItem → Type 0
IsDylink (Memory m) = AreNeeds m
IsDylink (Needed names) = IsEncodableVec IsEncodableName names
IsDylink (ExportFlags exports) = IsEncodableVec IsDylinkExport exports
IsDylink (ImportFlags imports) = IsEncodableVec IsDylinkImport imports
IsDylink (RuntimePath paths) = IsEncodableVec IsEncodableName paths
IsDylink (OtherDylink id content) = ⊥

-- The formats of a subsection by its id: memory and table after 1, names of libraries after 2,
-- flags of exports after 3, flags of imports after 4, and folders after 5.
abbrev pub dylink_tags : List (ℕ × Format DylinkItem)
dylink_tags =
    (1, mapped Memory (size_prefixed needs)) ∷
    (2, mapped Needed (size_prefixed (vec name))) ∷
    (3, mapped ExportFlags (size_prefixed (vec export_flags))) ∷
    (4, mapped ImportFlags (size_prefixed (vec import_flags))) ∷
    (5, mapped RuntimePath (size_prefixed (vec name))) ∷
    []

-- A subsection of the builders' grammar: an id, then its size-prefixed content.
abbrev pub built_dylink : Format DylinkItem
built_dylink = tagged byte (choice dylink_tags (λ b. impossible))

-- The format of a subsection of any other id: its content is not decoded.
abbrev pub other_dylink : ℕ → Format DylinkItem
other_dylink id = mapped (OtherDylink id) (size_prefixed any_bytes)

-- A subsection of any id: the id, then its size-prefixed content.
abbrev pub full_dylink : Format DylinkItem
full_dylink = tagged byte (choice dylink_tags other_dylink)

-- A subsection: in the standard's grammar of any id, and in the builders' of five.
abbrev pub dylink_item : Format DylinkItem
dylink_item = by_mode built_dylink full_dylink full_dylink

-- The kind of subsections.
abbrev pub dylink_items : Kind DylinkItem DylinkItem
dylink_items = record { encoding = dylink_encoding; IsWellFormed = IsDylink; IsWellFormedPadded = IsDylink; normal_form = λ item. item; format = dylink_item }

-- The section name `dylink.0`.
abbrev pub dylink_name : List ℕ
dylink_name = codes "dylink.0"

-- ---- the section of a dynamic library

-- The pieces encode these subsections.
abbrev pub ContainsDylink : List (List ℕ) → List DylinkItem → Type 0
ContainsDylink = ContainsItems dylink_items

-- The payload of the section of a dynamic library: its name and its subsections.
abbrev pub dylink_payload : Format (List DylinkItem)
dylink_payload = named_payload dylink_name (entries (fixed [] (tt {0})) false dylink_item)

-- The section of a dynamic library that decodes to these subsections.
abbrev pub dylink_decoding : List DylinkItem → SectionDecoding
dylink_decoding subsections = decoding_as dylink_payload subsections

-- ---- decoded subsections

-- The view of decoded flags of an exported symbol.
abbrev pub export_flags_view : read_export.DylinkExport → DylinkExport
export_flags_view e = record { name = e.name.now; flags = e.flags }

-- The view of decoded flags of an imported symbol.
abbrev pub import_flags_view : read_import.DylinkImport → DylinkImport
import_flags_view i = record { module_name = i.module_name.now; name = i.name.now; flags = i.flags }

-- The view of a decoded subsection.
abbrev pub dylink_view : {A : Type 0} → read.DylinkItem A → DylinkItem
dylink_view (items.Memory m) = Memory m
dylink_view (items.Needed names) = Needed (map (λ n. n.now) names.items)
dylink_view (items.ExportFlags exports) = ExportFlags (map export_flags_view exports.items)
dylink_view (items.ImportFlags imports) = ImportFlags (map import_flags_view imports.items)
dylink_view (items.RuntimePath paths) = RuntimePath (map (λ n. n.now) paths.items)
dylink_view (items.Other id bytes) = OtherDylink id bytes.now
