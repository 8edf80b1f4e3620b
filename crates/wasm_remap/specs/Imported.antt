-- This file defines modules into which an import is inserted.
use Rattle.std.specs.Prelude.{ℕ, ◌+◌, List, [], ◌∷◌, Bool, length, if◌then◌else◌}
use Rattle.std.specs.List.{count_by}
use Rattle.wasm_base.specs.Words.{standard, vec, number_of}
use Rattle.wasm_base.specs.declared.section_id.SectionId.TheVariants as ids
use Rattle.wasm_reader.specs.declared.whole.Offsets.{Offsets}
use Rattle.wasm_sections.specs.Imports.{ImportItem, Imported, IsImport, alike, import_format, import_item, named, single}
use Rattle.wasm_sections.specs.declared.import.EntityType.{EntityType}
use Rattle.wasm_sections.specs.declared.import.EntityType.TheVariants as entities
use Rattle.wasm_sections.specs.declared.import.Import.{Import}
use Rattle.wasm_remap.specs.Inserted.{InsertsSection}
use Rattle.wasm_remap.specs.Sections.{RemapsModule}
use Rattle.wasm_remap.specs.Shifted.{is_same, shifted}
use Rattle.wasm_remap.specs.declared.insert.Position.TheVariants.{First}
use Rattle.wasm_remap.specs.declared.shift.Shift.{Shift}
use Rattle.wasm_remap.specs.declared.spaces.IndexSpace.{IndexSpace}
use Rattle.wasm_remap.specs.declared.spaces.IndexSpace.TheVariants as spaces

-- The index space of an imported entity.
abbrev pub space_of : EntityType → IndexSpace
space_of (entities.Function index) = spaces.Functions
space_of (entities.FunctionExact index) = spaces.Functions
space_of (entities.Table ty) = spaces.Tables
space_of (entities.Memory ty) = spaces.Memories
space_of (entities.Global ty) = spaces.Globals
space_of (entities.Tag ty) = spaces.Tags

-- Whether the entity has an index in the space.
abbrev pub is_in : IndexSpace → EntityType → Bool
is_in space ty = is_same (space_of ty) space

-- How many such entities are imported from a module.
abbrev pub imported_from : IndexSpace → Imported → ℕ
imported_from space (single n ty) = if is_in space ty then 1 else 0
imported_from space (named items) = count_by (λ i. is_in space i.1) items
imported_from space (alike ty names) = if is_in space ty then length names else 0

-- How many such entities are imported.
abbrev pub imported : IndexSpace → List ImportItem → ℕ
imported space [] = 0
imported space (i ∷ imports) = imported_from space i.imported + imported space imports

-- The map that makes room for one entity before all others of its space.
abbrev pub room_in : IndexSpace → Shift
room_in space = record { space = space; from = 0; by = 1 }

-- The indices of the entity's space are one higher, and the first member of the imports is this one.
-- Its payload as a section alone decodes to it, if its names are UTF-8 and its numbers are in range.
pub record InsertsImport (x : Import) (offsets : Offsets) (bytes edited : List ℕ) : Type 0 where
  pub shifted_bytes : List ℕ
  pub shifts : RemapsModule (shifted (room_in (space_of x.ty))) offsets bytes shifted_bytes
  pub payload : List ℕ
  pub decodes : IsImport (import_item x) → vec import_format standard payload (import_item x ∷ [])
  pub inserts : InsertsSection First (number_of ids.Import) payload shifted_bytes edited
