-- This file defines the items of the callers' sections.
use Rattle.std.specs.Prelude.{ℕ, [], ◌∷◌, false, None, Some}
use Rattle.std.specs.declared.alloc.Global.{Global}
use Rattle.wasm_base.specs.Words.{FUNCREF, unshared}
use Rattle.wasm_base.specs.declared.types.AbstractHeapType.TheVariants.{Func}
use Rattle.wasm_base.specs.declared.types.ValType.TheVariants.{I32}
use Rattle.wasm_code.specs.Words.{normal_row}
use Rattle.wasm_insn.specs.declared.instruction.Instruction.TheVariants.{GlobalGet, RefNull}
use Rattle.wasm_sections.specs.Words.{GlobalItem, TableItem}
use Rattle.wasm_sections.specs.declared.global.GlobalType.{GlobalType}
use Rattle.wasm_sections.specs.declared.table.TableType.{TableType}

-- The type of an immutable `i32` global.
abbrev pub constant_type : GlobalType
constant_type = record { val_type = I32; mutable = false; shared = false }

-- An immutable global whose initial value is that of the global of this index.
abbrev pub copied : (index : ℕ) → GlobalItem
copied index = record { global_type = constant_type; init = normal_row {A = Global} (GlobalGet index) ∷ [] }

-- The type of a table of functions with this minimum.
abbrev pub functions_type : (minimum : ℕ) → TableType
functions_type minimum = record { element_type = FUNCREF; table64 = false; minimum = minimum; maximum = None; shared = false }

-- A table of functions without an explicit initial value, so that all are null at first.
abbrev pub null_table : (minimum : ℕ) → TableItem
null_table minimum = record { table_type = functions_type minimum; init = None }

-- A table of functions whose expression says that all are null at first.
abbrev pub nulled_table : (minimum : ℕ) → TableItem
nulled_table minimum = record { table_type = functions_type minimum; init = Some (normal_row {A = Global} (RefNull (unshared Func)) ∷ []) }
