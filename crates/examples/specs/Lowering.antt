-- This file defines the instructions for the operations of a stack machine.
use Rattle.std.specs.Prelude.{ℕ, List, [], ◌∷◌, ◌++◌, map}
use Rattle.std.specs.declared.alloc.Global.{Global}
use Rattle.wasm_base.specs.declared.types.ValType.TheVariants.{I32}
use Rattle.wasm_code.specs.Words.{Body, IsWellFormedBody, and_then}
use Rattle.wasm_immediates.specs.declared.block_type.BlockType.TheVariants.{Empty}
use Rattle.wasm_insn.specs.Words.{Plain}
use Rattle.wasm_insn.specs.declared.instruction.Instruction.{Instruction}
use Rattle.wasm_insn.specs.declared.numeric.Numeric.{Numeric}
use Rattle.wasm_insn.specs.declared.numeric.Numeric.TheVariants.{I32Add, I32Sub, I32Mul, I32Eq, I32LtS, I32Eqz}
use Rattle.examples.specs.Bodies.{row}
use Rattle.examples.specs.declared.lowering.Operator.{Operator}
use Rattle.examples.specs.declared.lowering.Operator.TheVariants.{Add, Subtract, Multiply, Equal, Less}
use Rattle.examples.specs.declared.lowering.Operation.{Operation}
use Rattle.examples.specs.declared.lowering.Operation.TheVariants.{Constant, Get, Set, Binary, IsZero, Block, Loop, Branch, BranchIf, Call, Return, End}
use Rattle.wasm_insn.specs.declared.instruction.Instruction.TheVariants as instructions

-- The numeric instruction of an operator.
unfoldable pub numeric_of : Operator → Numeric
numeric_of Add = I32Add
numeric_of Subtract = I32Sub
numeric_of Multiply = I32Mul
numeric_of Equal = I32Eq
numeric_of Less = I32LtS

-- The instruction of an operation.
unfoldable pub instruction_of : Operation → Instruction Global
instruction_of (Constant value) = instructions.I32Const value
instruction_of (Get index) = instructions.LocalGet index
instruction_of (Set index) = instructions.LocalSet index
instruction_of (Binary operator) = instructions.Numeric (numeric_of operator)
instruction_of IsZero = instructions.Numeric I32Eqz
instruction_of Block = instructions.Block Empty
instruction_of Loop = instructions.Loop Empty
instruction_of (Branch label) = instructions.Br label
instruction_of (BranchIf label) = instructions.BrIf label
instruction_of (Call index) = instructions.Call index
instruction_of Return = instructions.Return
instruction_of End = instructions.End

-- The instructions of the operations, as a reader decodes them.
abbrev pub rows_of : List Operation → List Plain
rows_of operations = map (λ operation. row (instruction_of operation)) operations

-- The body of the operations: `i32` locals, the instructions, and `end`.
abbrev pub body_of : (locals : ℕ) → List Operation → Body
body_of locals operations = record { runs = (locals, I32) ∷ []; code = rows_of operations ++ row (instruction_of End) ∷ [] }

-- If the old bytes minimally encode a body, the new ones encode it with the instructions of these
-- operations appended.
pub record GainsOperations (operations : List Operation) (old new : List ℕ) : Type 0 where
  pub plain : (x : Body) → IsWellFormedBody old x → IsWellFormedBody new (and_then x (rows_of operations))
