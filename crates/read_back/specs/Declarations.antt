-- This file defines the items of the sections that declare types, imports, memories, tags and
-- exports.
use Rattle.std.specs.Prelude.{ℕ, List, [], ◌∷◌, true, false, None, Some, codes}
use Rattle.wasm_sections.specs.Words.{ExportItem, ImportItem, single}
use Rattle.wasm_sections.specs.declared.memory.MemoryType.{MemoryType}
use Rattle.wasm_sections.specs.declared.tag.TagType.{TagType}
use Rattle.wasm_sections.specs.declared.export.ExportKind.TheVariants.{Func}
use Rattle.wasm_sections.specs.declared.import.EntityType.TheVariants.{Function}
use Rattle.wasm_sections.specs.declared.tag.TagKind.TheVariants.{Exception}
use Rattle.wasm_types.specs.Words.{Sub, TypeItem, single as unique, array, structure, plain_type}
use Rattle.wasm_types.specs.declared.types.FieldType.{FieldType}
use Rattle.wasm_types.specs.declared.types.StorageType.TheVariants.{I8}

-- A mutable byte.
abbrev pub byte_field : FieldType
byte_field = record { element_type = I8; mutable = true }

-- An array of bytes that is not final.
abbrev pub open_bytes : Sub
open_bytes = record { is_final = false; supertypes = []; composite = record { shared = false; describes = None; descriptor = None; shape = array byte_field } }

-- An array of bytes, a structure of one byte, and an array of bytes that is not final.
abbrev pub byte_types : List TypeItem
byte_types = plain_type (array byte_field) ∷ plain_type (structure (byte_field ∷ [])) ∷ unique open_bytes ∷ []

-- The import of `f` from `m`, a function of this type index.
abbrev pub imported_function : ℕ → ImportItem
imported_function index = record { module_name = codes "m"; imported = single (codes "f") (Function index) }

-- A memory with this minimum of pages.
abbrev pub pages : ℕ → MemoryType
pages minimum = record { minimum = minimum; maximum = None; memory64 = false; shared = false; page_size_log2 = None }

-- A memory of one to two pages, with 64-bit addresses.
abbrev pub two_pages : MemoryType
two_pages = record { minimum = 1; maximum = Some 2; memory64 = true; shared = false; page_size_log2 = None }

-- A tag of this type index.
abbrev pub thrown : ℕ → TagType
thrown index = record { kind = Exception; func_type_idx = index }

-- The export of the function of this index by this name.
abbrev pub exported : List ℕ → ℕ → ExportItem
exported name index = record { name = name; kind = Func; index = index }
