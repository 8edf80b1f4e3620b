-- This file defines the globals whose initial value is a sum.
use Rattle.std.specs.Prelude.{ℕ, [], ◌∷◌, false, List, pos}
use Rattle.wasm_base.specs.declared.types.ValType.TheVariants.{I32}
use Rattle.wasm_insn.specs.Words.{Plain}
use Rattle.wasm_insn.specs.declared.instruction.Instruction.TheVariants.{GlobalGet, I32Const, Numeric}
use Rattle.wasm_insn.specs.declared.numeric.Numeric.TheVariants.{I32Add}
use Rattle.wasm_sections.specs.Words.{GlobalItem}
use Rattle.examples.specs.Bodies.{row}

-- The expression that adds 5 to the global of this index.
abbrev pub sum_code : (index : ℕ) → List Plain
sum_code index = row (GlobalGet index) ∷ row (I32Const (pos 5)) ∷ row (Numeric I32Add) ∷ []

-- An immutable global with this sum.
abbrev pub sum_global : (index : ℕ) → GlobalItem
sum_global index = record { global_type = record { val_type = I32; mutable = false; shared = false }; init = sum_code index }
