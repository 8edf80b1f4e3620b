-- This file defines the constant expressions that are arguments of calls.
use Rattle.std.specs.Prelude.{ℕ, List, map}
use Rattle.wasm_base.specs.Words.{Mode, minimal, padded}
use Rattle.wasm_code.specs.Words.{StoresIn}
use Rattle.wasm_code.specs.declared.expression.Expression.{Expression}
use Rattle.wasm_insn.specs.Words.{Plain, plain_view}

-- An expression as an argument: its stored bytes, and the instructions that they should encode.
pub record Stored : Type 0 where
  pub bytes : List ℕ
  pub instructions : List Plain

-- The stored bytes encode the instructions in this mode, and none of them is `end`.
abbrev pub IsStoredIn : Mode → Stored → Type 0
IsStoredIn mode e = StoresIn mode e.bytes e.instructions

-- The stored bytes minimally encode the instructions, and none of them is `end`.
abbrev pub IsStored : Stored → Type 0
IsStored e = IsStoredIn minimal e

-- The stored bytes encode the instructions, possibly padded, and none of them is `end`.
abbrev pub IsStoredPadded : Stored → Type 0
IsStoredPadded e = IsStoredIn padded e

-- The instructions of a decoded expression.
abbrev pub instructions_view : {A : Type 0} → Expression A → List Plain
instructions_view e = map plain_view e.0.items
