-- This file defines what a map of indices makes of the items of the standard's sections.
use Rattle.std.specs.Prelude.{ℕ, ◌==◌, List, Option, Some, None, cond, map}
use Rattle.std.specs.Option.{option_map}
use Rattle.wasm_sections.specs.Words.{DataItem, ElementItem, ExportItem, GlobalItem, ImportItem, TableItem}
use Rattle.wasm_sections.specs.Imports.{Imported, single, named, alike}
use Rattle.wasm_sections.specs.Elements.{SegmentMode, ElementList, passive, declared, active, functions, expressions}
use Rattle.wasm_sections.specs.DataSegments.{active as active_data, passive as passive_data}
use Rattle.wasm_sections.specs.declared.export.ExportKind.{ExportKind}
use Rattle.wasm_sections.specs.declared.export.ExportKind.TheVariants as exports
use Rattle.wasm_sections.specs.declared.global.GlobalType.{GlobalType}
use Rattle.wasm_sections.specs.declared.import.EntityType.{EntityType}
use Rattle.wasm_sections.specs.declared.import.EntityType.TheVariants.{Function, Table, Memory, Global, Tag, FunctionExact}
use Rattle.wasm_sections.specs.declared.table.TableType.{TableType}
use Rattle.wasm_sections.specs.declared.tag.TagType.{TagType}
use Rattle.wasm_insn.specs.Words.{Plain}
use Rattle.wasm_remap.specs.Instructions.{remapped_instruction, remapped_ref, remapped_val}
use Rattle.wasm_remap.specs.Mapping.{Mapping}
use Rattle.wasm_remap.specs.declared.spaces.IndexSpace.{IndexSpace}
use Rattle.wasm_remap.specs.declared.spaces.IndexSpace.TheVariants as spaces

-- A constant expression.
abbrev pub remapped_expression : Mapping → List Plain → List Plain
remapped_expression m = map (remapped_instruction m)

-- ---- types of entities

-- A table type.
abbrev pub remapped_table_type : Mapping → TableType → TableType
remapped_table_type m t = record { element_type = remapped_ref m t.element_type; table64 = t.table64; minimum = t.minimum; maximum = t.maximum; shared = t.shared }

-- A global type.
abbrev pub remapped_global_type : Mapping → GlobalType → GlobalType
remapped_global_type m g = record { val_type = remapped_val m g.val_type; mutable = g.mutable; shared = g.shared }

-- A tag type.
abbrev pub remapped_tag : Mapping → TagType → TagType
remapped_tag m t = record { kind = t.kind; func_type_idx = m spaces.Types t.func_type_idx }

-- The type of an imported entity.
abbrev pub remapped_entity : Mapping → EntityType → EntityType
remapped_entity m (Function n) = Function (m spaces.Types n)
remapped_entity m (Table t) = Table (remapped_table_type m t)
remapped_entity m (Memory t) = Memory t
remapped_entity m (Global g) = Global (remapped_global_type m g)
remapped_entity m (Tag t) = Tag (remapped_tag m t)
remapped_entity m (FunctionExact n) = FunctionExact (m spaces.Types n)

-- ---- items

-- What a module imports from another.
abbrev pub remapped_imported : Mapping → Imported → Imported
remapped_imported m (single name entity) = single name (remapped_entity m entity)
remapped_imported m (named items) = named (map (λ item. (item.0, remapped_entity m item.1)) items)
remapped_imported m (alike entity names) = alike (remapped_entity m entity) names

-- An entry of an import section.
abbrev pub remapped_import : Mapping → ImportItem → ImportItem
remapped_import m i = record { module_name = i.module_name; imported = remapped_imported m i.imported }

-- The index space of an export.
abbrev pub space_of_export : ExportKind → IndexSpace
space_of_export exports.Func = spaces.Functions
space_of_export exports.Table = spaces.Tables
space_of_export exports.Memory = spaces.Memories
space_of_export exports.Global = spaces.Globals
space_of_export exports.Tag = spaces.Tags

-- An export.
abbrev pub remapped_export : Mapping → ExportItem → ExportItem
remapped_export m e = record { name = e.name; kind = e.kind; index = m (space_of_export e.kind) e.index }

-- A table, with the expression of its initial value.
abbrev pub remapped_table : Mapping → TableItem → TableItem
remapped_table m t = record { table_type = remapped_table_type m t.table_type; init = option_map (remapped_expression m) t.init }

-- A global.
abbrev pub remapped_global : Mapping → GlobalItem → GlobalItem
remapped_global m g = record { global_type = remapped_global_type m g.global_type; init = remapped_expression m g.init }

-- The table of an active element segment. If none is given, it is table 0.
abbrev pub remapped_table_index : Mapping → Option ℕ → Option ℕ
remapped_table_index m (Some n) = Some (m spaces.Tables n)
remapped_table_index m None = cond (m spaces.Tables 0 == 0) None (Some (m spaces.Tables 0))

-- The mode of an element segment.
abbrev pub remapped_mode : Mapping → SegmentMode (List Plain) → SegmentMode (List Plain)
remapped_mode m passive = passive
remapped_mode m declared = declared
remapped_mode m (active table offset) = active (remapped_table_index m table) (remapped_expression m offset)

-- The elements of a segment.
abbrev pub remapped_elements : Mapping → ElementList (List Plain) → ElementList (List Plain)
remapped_elements m (functions fs) = functions (map (m spaces.Functions) fs)
remapped_elements m (expressions ty es) = expressions (remapped_ref m ty) (map (remapped_expression m) es)

-- An element segment.
abbrev pub remapped_element : Mapping → ElementItem (List Plain) → ElementItem (List Plain)
remapped_element m e = record { segment_mode = remapped_mode m e.segment_mode; elements = remapped_elements m e.elements }

-- A data segment.
abbrev pub remapped_data : Mapping → DataItem → DataItem
remapped_data m (active_data memory offset bytes) = active_data (m spaces.Memories memory) (remapped_expression m offset) bytes
remapped_data m (passive_data bytes) = passive_data bytes
