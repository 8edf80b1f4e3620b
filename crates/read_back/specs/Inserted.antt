-- This file defines modules into which an import, a global and a start function are inserted.
use Rattle.std.specs.Prelude.{ℕ, ◌==◌, List, [], ◌∷◌, Bool, codes, cond, pos, true, false}
use Rattle.std.proofs.Common.{refl}
use Rattle.std.specs.declared.alloc.Global.{Global as Heap}
use Rattle.wasm_base.specs.Words.{unsigned_encoding, number_of}
use Rattle.wasm_base.specs.declared.section_id.SectionId.TheVariants as ids
use Rattle.wasm_base.specs.declared.types.ValType.TheVariants.{I32}
use Rattle.wasm_code.specs.Words.{normal_row}
use Rattle.wasm_insn.specs.Words.{Plain}
use Rattle.wasm_insn.specs.declared.op.Op.{Op}
use Rattle.wasm_insn.specs.declared.op.Op.TheVariants.{Byte, Prefixed}
use Rattle.wasm_insn.specs.declared.instruction.Instruction.TheVariants.{Call, I32Const}
use Rattle.wasm_reader.specs.declared.whole.Offsets.TheVariants.{LeaveOut}
use Rattle.wasm_remap.specs.Begun.{IsClosed}
use Rattle.wasm_remap.specs.Imported.{room_in}
use Rattle.wasm_remap.specs.Inserted.{GainsMembers, InsertsSection}
use Rattle.wasm_remap.specs.Sections.{RemapsModule}
use Rattle.wasm_remap.specs.Shifted.{shifted}
use Rattle.wasm_remap.specs.declared.insert.Position.TheVariants.{First, Last, Instead}
use Rattle.wasm_remap.specs.declared.spaces.IndexSpace.TheVariants as spaces
use Rattle.wasm_sections.specs.Imports.{ImportItem, import_format, single}
use Rattle.wasm_sections.specs.Words.{GlobalItem, global_item}
use Rattle.wasm_sections.specs.declared.import.EntityType.TheVariants as entities

-- The import of the function `hit` of `host`, of type 0.
abbrev pub hit : ImportItem
hit = record { module_name = codes "host"; imported = single (codes "hit") (entities.Function 0) }

-- Each function of the module has the next index, and the import is before all others.
pub record CallsHit (bytes new : List ℕ) : Type 0 where
  pub shifted_bytes : List ℕ
  pub shifts : RemapsModule (shifted (room_in spaces.Functions)) LeaveOut bytes shifted_bytes
  pub gains : GainsMembers First (number_of ids.Import) import_format (hit ∷ []) shifted_bytes new

-- A mutable global of 32 bits, initially 0.
abbrev pub counter : GlobalItem
counter = record { global_type = record { val_type = I32; mutable = true; shared = false }; init = normal_row {A = Heap} (I32Const (pos 0)) ∷ [] }

-- The module has this global behind its own.
abbrev pub HasCounter : List ℕ → List ℕ → Type 0
HasCounter bytes new = GainsMembers Last (number_of ids.Global) global_item (counter ∷ []) bytes new

-- The module has a start section of this function, in place of another or as a new one.
abbrev pub StartsAt : ℕ → List ℕ → List ℕ → Type 0
StartsAt index bytes new = InsertsSection Instead (number_of ids.Start) (unsigned_encoding index) bytes new

-- A call of function 0.
abbrev pub calling : List Plain
calling = normal_row {A = Heap} (Call 0) ∷ []

-- A call of function 0 in front of an instruction of this opcode, if that is a call.
abbrev pub traced : Op → List Plain
traced (Byte b) = cond (b == 0x10) calling []
traced (Prefixed prefix number) = []

-- Each block that these begin ends in them: they begin none.
pub traced_closed : (op : Op) → IsClosed (traced op)
traced_closed (Byte b) = if_call (b == 0x10)
  where
    if_call : (is : Bool) → IsClosed (cond is calling [])
    if_call true = refl
    if_call false = refl
traced_closed (Prefixed prefix number) = refl
