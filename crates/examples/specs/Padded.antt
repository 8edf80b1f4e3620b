-- This file defines the items of sections with padded LEB128.
use Rattle.std.specs.Prelude.{[], ◌∷◌, false, ℤ}
use Rattle.wasm_base.specs.declared.types.ValType.TheVariants.{I32}
use Rattle.wasm_code.specs.Words.{Body}
use Rattle.wasm_insn.specs.declared.instruction.Instruction.TheVariants.{I32Const, End}
use Rattle.wasm_sections.specs.Words.{GlobalItem}
use Rattle.examples.specs.Bodies.{row}

-- A body without locals, and `end`.
abbrev pub bare_body : Body
bare_body = record { runs = []; code = row End ∷ [] }

-- An immutable `i32` global of this value.
abbrev pub number : ℤ → GlobalItem
number value = record { global_type = record { val_type = I32; mutable = false; shared = false }; init = row (I32Const value) ∷ [] }
