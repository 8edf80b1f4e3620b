-- This file defines imports and groups of imports, their encodings and their format. Core
-- specification, Binary Format, Modules, Import Section.
use Rattle.std.specs.Prelude.{ℕ, ◌^◌, ◌<◌, List, [], ◌∷◌, ◌++◌, map, IsUtf8}
use Rattle.wasm_base.specs.Words.{items_of, Grammar, Kind, ContainsItems, Format, u32, name, byte, vec, mapped, tagged, choice, impossible, one_of, pair, prefixed, IsEncodableName, unsigned_encoding}
use Rattle.wasm_base.specs.Words.{size_prefixed_encoding, HasEncodableSize, vec_encoding, IsEncodableVec, SectionDecoding, decoding_of, number_of}
use Rattle.wasm_sections.specs.Globals.{global_encoding, global_encoding_in, IsGlobal, global_type}
use Rattle.wasm_sections.specs.Memories.{memory_encoding, IsMemory, memory_type}
use Rattle.wasm_sections.specs.Tables.{table_encoding, table_encoding_in, IsTable, table_type}
use Rattle.wasm_sections.specs.Tags.{tag_encoding, IsTag, tag_type}
use Rattle.wasm_sections.specs.declared.import.EntityType.{EntityType}
use Rattle.wasm_sections.specs.declared.import.EntityType.TheVariants.{Function, Table, Memory, Global, Tag, FunctionExact}
use Rattle.wasm_sections.specs.declared.import.Import.{Import}
use Rattle.wasm_sections.specs.declared.import.ImportCompact.{ImportCompact}
use Rattle.wasm_sections.specs.declared.import.Imports.{Imports}
use Rattle.wasm_base.specs.declared.section_id.SectionId.TheVariants as ids
use Rattle.wasm_sections.specs.declared.import.Imports.TheVariants as groups

-- ---- imported entities

-- The encoding of an entity: a byte for its kind, and its type. The core specification lacks
-- `FunctionExact`, which the custom descriptors proposal adds.
abbrev pub entity_encoding : EntityType → List ℕ
entity_encoding (Function index) = 0x00 ∷ unsigned_encoding index
entity_encoding (Table ty) = 0x01 ∷ table_encoding ty
entity_encoding (Memory ty) = 0x02 ∷ memory_encoding ty
entity_encoding (Global ty) = 0x03 ∷ global_encoding ty
entity_encoding (Tag ty) = 0x04 ∷ tag_encoding ty
entity_encoding (FunctionExact index) = 0x20 ∷ unsigned_encoding index

-- The minimal encoding of an entity in each grammar.
abbrev pub entity_encoding_in : Grammar → EntityType → List ℕ
entity_encoding_in w (Function index) = 0x00 ∷ unsigned_encoding index
entity_encoding_in w (Table ty) = 0x01 ∷ table_encoding_in w ty
entity_encoding_in w (Memory ty) = 0x02 ∷ memory_encoding ty
entity_encoding_in w (Global ty) = 0x03 ∷ global_encoding_in w ty
entity_encoding_in w (Tag ty) = 0x04 ∷ tag_encoding ty
entity_encoding_in w (FunctionExact index) = 0x20 ∷ unsigned_encoding index

-- The numbers of the entity are in range.
abbrev pub IsEntity : EntityType → Type 0
IsEntity (Function index) = index < 2 ^ 32
IsEntity (Table ty) = IsTable ty
IsEntity (Memory ty) = IsMemory ty
IsEntity (Global ty) = IsGlobal ty
IsEntity (Tag ty) = IsTag ty
IsEntity (FunctionExact index) = index < 2 ^ 32

-- The formats of an entity by the byte of its kind.
abbrev pub entity_tags : List (ℕ × Format EntityType)
entity_tags =
    (0x00, mapped Function u32) ∷ (0x01, mapped Table table_type) ∷ (0x02, mapped Memory memory_type) ∷ (0x03, mapped Global global_type) ∷ (0x04, mapped Tag tag_type)
    ∷ (0x20, mapped FunctionExact u32)
    ∷ []

-- An imported entity: a byte for its kind, and its type.
abbrev pub entity : Format EntityType
entity = tagged byte (choice entity_tags (λ b. impossible))

-- ---- imports

-- The imports from a module: one entity, a group of names with an entity each, or a group of names
-- of one entity. The core specification lacks groups, which the compact import section proposal
-- adds.
pub data Imported : Type 0 where
  single : List ℕ → EntityType → Imported
  named : List (List ℕ × EntityType) → Imported
  alike : EntityType → List (List ℕ) → Imported

-- An entry of the import section: the module name, and the imports from that module.
pub record ImportItem : Type 0 where
  pub module_name : List ℕ
  pub imported : Imported

-- The encoding of a group's item: its name and its entity.
abbrev pub named_encoding : List ℕ × EntityType → List ℕ
named_encoding i = size_prefixed_encoding i.0 ++ entity_encoding i.1

-- The encoding of the imports from a module. A group begins with 00, and with a byte for its kind
-- that no entity has.
abbrev pub imported_encoding : Imported → List ℕ
imported_encoding (single n ty) = size_prefixed_encoding n ++ entity_encoding ty
imported_encoding (named items) = 0x00 ∷ 0x7F ∷ vec_encoding named_encoding items
imported_encoding (alike ty names) = 0x00 ∷ 0x7E ∷ (entity_encoding ty ++ vec_encoding size_prefixed_encoding names)

-- The encoding of an entry: the module name, and the imports from that module.
abbrev pub import_encoding : ImportItem → List ℕ
import_encoding i = size_prefixed_encoding i.module_name ++ imported_encoding i.imported

-- The lengths of item names are at most 2^32 - 1, and so is the number of items in a group.
abbrev pub IsEncodableImported : Imported → Type 0
IsEncodableImported (single n ty) = HasEncodableSize n
IsEncodableImported (named items) = IsEncodableVec (λ i. HasEncodableSize i.0) items
IsEncodableImported (alike ty names) = IsEncodableVec HasEncodableSize names

-- The lengths of all names of the entry are at most 2^32 - 1, and so is the number of items in a
-- group.
abbrev pub IsEncodableImport : ImportItem → Type 0
IsEncodableImport i = HasEncodableSize i.module_name × IsEncodableImported i.imported

-- The name is UTF-8 of at most 2^32 - 1 bytes, and the numbers of the entity are in range.
abbrev pub IsNamed : List ℕ × EntityType → Type 0
IsNamed i = IsEncodableName i.0 × IsEntity i.1

-- Item names are UTF-8, numbers are in range, and the list of a group fits.
abbrev pub IsImported : Imported → Type 0
IsImported (single n ty) = IsUtf8 n × IsEntity ty
IsImported (named items) = IsEncodableVec IsNamed items
IsImported (alike ty names) = IsEntity ty × IsEncodableVec IsEncodableName names

-- The entry is well-formed: names are UTF-8, numbers are in range, and the list of a group fits.
abbrev pub IsImport : ImportItem → Type 0
IsImport i = IsUtf8 i.module_name × IsImported i.imported

-- ---- arguments of calls

-- The entry of an import of one entity.
abbrev pub import_item : Import → ImportItem
import_item i = record { module_name = i.«module».now; imported = single i.name.now i.ty }

-- The name and the entity of a group's item.
abbrev pub compact_item : ImportCompact → List ℕ × EntityType
compact_item i = (i.name.now, i.ty)

-- The entry of an argument, whose lists are borrowed or owned.
abbrev pub imports_item : {A : Type 0} → Imports A → ImportItem
imports_item (groups.Single i) = import_item i
imports_item (groups.Compact1 m items) = record { module_name = m.now; imported = named (map compact_item (items_of items)) }
imports_item (groups.Compact2 m ty names) = record { module_name = m.now; imported = alike ty (map (λ n. n.now) (items_of names)) }

-- ---- format

-- The group of these names, which all import this entity.
abbrev pub alike_of : EntityType × List (List ℕ) → Imported
alike_of parts = alike parts.0 parts.1

-- The formats of a group by the byte of its kind: names with an entity each, or one entity and its
-- names.
abbrev pub group_tags : List (ℕ × Format Imported)
group_tags = (0x7F, mapped named (vec (pair name entity))) ∷ (0x7E, mapped alike_of (pair entity (vec name))) ∷ []

-- A group: a byte for its kind, then its names and entities.
abbrev pub group : Format Imported
group = tagged byte (choice group_tags (λ b. impossible))

-- The name of an item, and its entity.
abbrev pub named_entity : Format Imported
named_entity = tagged name (λ item. mapped (single item) entity)

-- The bytes after the module name: an item, or the byte 00 and a group.
abbrev pub after_module : Format Imported
after_module = one_of named_entity (prefixed (0x00 ∷ []) group)

-- The entry of this module name and these imports.
abbrev pub import_of : List ℕ × Imported → ImportItem
import_of parts = record { module_name = parts.0; imported = parts.1 }

-- An entry of the import section: the module name, then an item name and its entity, or a group.
abbrev pub import_format : Format ImportItem
import_format = mapped import_of (pair name after_module)

-- The kind of the entries of an import section.
abbrev pub import_items : Kind ImportItem ImportItem
import_items = record { encoding = import_encoding; IsWellFormed = IsImport; IsWellFormedPadded = IsImport; normal_form = λ import. import; format = import_format }

-- The pieces encode these entries.
abbrev pub ContainsImports : List (List ℕ) → List ImportItem → Type 0
ContainsImports = ContainsItems import_items

-- The import section that decodes to these entries.
abbrev pub import_decoding : List ImportItem → SectionDecoding
import_decoding imports = decoding_of (number_of ids.Import) (vec import_format) imports
