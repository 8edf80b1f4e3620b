-- This file defines the results of `dz_remap_module` and `dz_insert_import`.
use Rattle.std.specs.Prelude.{◌≡◌, ◌≢◌, ◌⊎◌, ℕ, List, [], ◌∷◌, Option, Some, get_or, cond, true}
use Rattle.std.specs.List.{slice_get}
use Rattle.wasm_base.specs.Words.{number_of}
use Rattle.wasm_base.specs.declared.fault.ReadFault.TheVariants as faults
use Rattle.wasm_base.specs.declared.section_id.SectionId.TheVariants as ids
use Rattle.wasm_base.specs.declared.refused.Refused.TheVariants.{Memory, TooLong}
use Rattle.wasm_remap.specs.Imported.{room_in}
use Rattle.wasm_remap.specs.Inserted.{GainsMembers}
use Rattle.wasm_remap.specs.Sections.{RemapsModule}
use Rattle.wasm_remap.specs.Shifted.{is_same, shifted}
use Rattle.wasm_remap.specs.declared.indexed.RemapError.{RemapError}
use Rattle.wasm_remap.specs.declared.indexed.RemapError.TheVariants as errors
use Rattle.wasm_remap.specs.declared.insert.Position.TheVariants.{First}
use Rattle.wasm_remap.specs.declared.spaces.IndexSpace.{IndexSpace}
use Rattle.wasm_remap.specs.declared.spaces.IndexSpace.TheVariants as spaces
use Rattle.wasm_sections.specs.Imports.{ImportItem, import_format, single}
use Rattle.wasm_sections.specs.declared.import.EntityType.TheVariants as entities
use Rattle.wasm_c.specs.Assembled.{Gives}
use Rattle.wasm_c.specs.Listing.{fault_number}
use Rattle.wasm_c.specs.Whole.{offsets_numbered}
use Rattle.wasm_c.specs.declared.TheConstants.{NO_ANSWER}

-- The index space of this number.
abbrev pub space_numbered : ℕ → Option IndexSpace
space_numbered = slice_get (spaces.Functions ∷ spaces.Types ∷ spaces.Tables ∷ spaces.Memories ∷ spaces.Globals ∷ spaces.Tags ∷ spaces.Elements ∷ spaces.Data ∷ [])

-- The new index of an old one: that in the list if the list is of this space and has one.
abbrev pub listed : IndexSpace → List ℕ → IndexSpace → ℕ → ℕ
listed space indices s n = cond (is_same s space) (get_or indices n n) n

-- The list is of this space, and has no new index: 2^32 - 1, or nothing.
abbrev pub IsRejected : IndexSpace → List ℕ → IndexSpace → ℕ → Type 0
IsRejected space indices s n = (is_same s space ≡ true) × (get_or indices n 0xFFFFFFFF ≡ 0xFFFFFFFF)

-- The offset of an error, or 0.
abbrev pub place_number : {E : Type 0} → RemapError E → ℕ
place_number (errors.Read e) = e.offset
place_number (errors.Refused e) = 0
place_number (errors.Index e) = 0
place_number (errors.Offsets offset) = offset

-- The number of an error's cause.
abbrev pub cause_number : {E : Type 0} → RemapError E → ℕ
cause_number (errors.Read e) = fault_number e.cause
cause_number (errors.Refused Memory) = fault_number faults.Memory
cause_number (errors.Refused TooLong) = 12
cause_number (errors.Index e) = 11
cause_number (errors.Offsets offset) = 10

-- The call returns no module, and writes nothing.
pub record Fails (old new : List ℕ) (cause n : ℕ) : Type 0 where
  pub answer : n ≡ NO_ANSWER
  pub as_was : new ≡ old
  pub why : cause ≢ 0

-- The call returns this module.
pub record Returns (bytes old new : List ℕ) (offset cause n : ℕ) : Type 0 where
  pub gives : Gives bytes old new n
  pub no_offset : offset ≡ 0
  pub no_cause : cause ≡ 0

-- The result of `dz_remap_module`: an error, or the module with each index of the space mapped.
abbrev pub Remapped : (bytes : List ℕ) (space : ℕ) (indices : List ℕ) (drop_offsets : ℕ) (old new : List ℕ) (offset cause n : ℕ) → Type 0
Remapped bytes space indices drop_offsets old new offset cause n =
    Fails old new cause n
    ⊎ ((s : IndexSpace) × (edited : List ℕ) × (space_numbered space ≡ Some s) × RemapsModule (listed s indices) (offsets_numbered drop_offsets) bytes edited × Returns edited old new offset cause n)

-- An imported function of the type of this index.
abbrev pub imported : (module_name name : List ℕ) (type_index : ℕ) → ImportItem
imported module_name name type_index = record { module_name = module_name; imported = single name (entities.Function type_index) }

-- The result of `dz_insert_import`: an error, or the module in which each index of a function is one
-- higher, and this import is before all others.
abbrev pub Inserted : (bytes module_name name : List ℕ) (type_index drop_offsets : ℕ) (old new : List ℕ) (offset cause n : ℕ) → Type 0
Inserted bytes module_name name type_index drop_offsets old new offset cause n =
    Fails old new cause n
    ⊎ ((shifted_bytes edited : List ℕ) × RemapsModule (shifted (room_in spaces.Functions)) (offsets_numbered drop_offsets) bytes shifted_bytes × GainsMembers First (number_of ids.Import) import_format (imported module_name name type_index ∷ []) shifted_bytes edited × Returns edited old new offset cause n)
