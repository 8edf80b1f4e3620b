-- This file defines when an opcode and immediates are no instruction.
use Rattle.std.specs.Prelude.{◌≡◌, ◌<◌, List, Some, map, ⊤}
use Rattle.std.specs.List.{AllByRecursion}
use Rattle.wasm_insn.specs.declared.op.Op.{Op}
use Rattle.wasm_insn.specs.declared.op.Shape.{Shape}
use Rattle.wasm_insn.specs.Arguments.{Argument, part_of, flag}
use Rattle.wasm_insn.specs.Parts.{parts_of}
use Rattle.wasm_insn.specs.Plain.{shape_of}
use Rattle.wasm_insn.specs.Table.{table}

-- The flags of a cast are below 4.
abbrev pub HasSmallFlags : Argument → Type 0
HasSmallFlags (flag n) = n < 4
HasSmallFlags _ = ⊤

-- The opcode and the immediates are no instruction: the table has no row for the opcode, or the
-- immediates are not of the types of its shape, or flags of a cast are above 3.
pub record IsNoInstruction (op : Op) (xs : List Argument) : Type 0 where
  pub none : (shape : Shape) → shape_of table op ≡ Some shape → map part_of xs ≡ parts_of shape → AllByRecursion HasSmallFlags xs → ⊥
