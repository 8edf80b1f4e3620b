-- This file defines the bodies of the examples.
use Rattle.std.specs.Prelude.{ℕ, [], ◌∷◌, pos}
use Rattle.std.specs.declared.alloc.Global.{Global}
use Rattle.wasm_base.specs.declared.types.ValType.TheVariants.{I32}
use Rattle.wasm_code.specs.Words.{Body, normal_row, br_table_row}
use Rattle.wasm_immediates.specs.declared.block_type.BlockType.TheVariants.{Empty}
use Rattle.wasm_insn.specs.Words.{Plain}
use Rattle.wasm_insn.specs.declared.instruction.Instruction.{Instruction}
use Rattle.wasm_insn.specs.declared.instruction.Instruction.TheVariants.{Block, LocalGet, Numeric, BrIf, I32Const, Call, Return, End}
use Rattle.wasm_insn.specs.declared.numeric.Numeric.TheVariants.{I32Eqz, I32Sub, I32Mul}

-- The instruction that a reader decodes.
abbrev pub row : Instruction Global → Plain
row i = normal_row i

-- A body with one local, and `end`.
abbrev pub first_body : Body
first_body = record { runs = (1, I32) ∷ []; code = row End ∷ [] }

-- A body that returns the local of this index.
abbrev pub local_body : (index : ℕ) → Body
local_body index = record { runs = []; code = row (LocalGet index) ∷ row End ∷ [] }

-- A body that returns the factorial of its one parameter, for the function of this index.
abbrev pub factorial_body : (itself : ℕ) → Body
factorial_body itself = record {
  runs = [];
  code =
      row (Block Empty) ∷
      row (LocalGet 0) ∷
      row (Numeric I32Eqz) ∷
      row (BrIf 0) ∷
      row (LocalGet 0) ∷
      row (LocalGet 0) ∷
      row (I32Const (pos 1)) ∷
      row (Numeric I32Sub) ∷
      row (Call itself) ∷
      row (Numeric I32Mul) ∷
      row Return ∷
      row End ∷
      row (I32Const (pos 1)) ∷
      row End ∷
      [];
}

-- A body with two blocks, and a branch out of the inner one or of both.
abbrev pub choice_body : Body
choice_body = record { runs = []; code = row (Block Empty) ∷ row (Block Empty) ∷ row (LocalGet 0) ∷ br_table_row (0 ∷ []) 1 ∷ row End ∷ row End ∷ row End ∷ [] }
