-- This file defines the visitor of instructions: its state, and what each step returns.
use Rattle.std.specs.Prelude.{◌≡◌, ◌≢◌, ℕ, ◌+◌, ◌<◌, ◌≤◌, List, [], ◌∷◌, length, drop, Option, Some, None, Result, Ok, Err}
use Rattle.wasm_base.specs.Words.{Format, Mode, Rejects, such}
use Rattle.wasm_base.specs.Faults.{Failure}
use Rattle.wasm_base.specs.declared.fault.ReadFault.TheVariants.{Memory}
use Rattle.wasm_insn.specs.Words.{Plain, instruction, table, DecodesOperation}
use Rattle.wasm_code.specs.Expressions.{IsNoEnd, expression}
use Rattle.wasm_code.specs.declared.walk.Decoded.{Decoded}

-- The state of the visitor: all bytes, and the offset of the next instruction in them.
pub record Walking : Type 0 where
  pub bytes : List ℕ
  pub offset : ℕ

-- The bytes from the visitor's offset on.
abbrev pub ahead : Walking → List ℕ
ahead w = drop w.offset w.bytes

-- The visitor returned this instruction of the format, which lies between the offsets before and
-- after.
pub record GivesInstruction (F : Format Plain) (mode : Mode) (before : Walking) (it : Decoded) (after : Walking) : Type 0 where
  pub found : DecodesOperation F mode (ahead before) it.op it.operands (ahead after)
  pub offset : it.offset ≡ before.offset
  pub further : before.offset < after.offset
  pub within : after.offset ≤ length after.bytes
  pub same : after.bytes ≡ before.bytes

-- The visitor returned this error, and did not move. No value of the format decodes from the next
-- bytes. The cause is not `Memory`.
pub record GivesFailure {X : Type 0} (F : Format X) (mode : Mode) (before : Walking) (e : Failure) (after : Walking) : Type 0 where
  pub none : e.cause ≢ Memory → Rejects F mode (ahead before)
  pub no_memory : e.cause ≢ Memory
  pub stays : after ≡ before

-- The result of `next`: `None` at the end of the bytes, an instruction, or an error.
abbrev pub NextInstruction : Mode → Walking → Result (Option Decoded) Failure → Walking → Type 0
NextInstruction mode before (Ok None) after = (ahead before ≡ []) × (after ≡ before)
NextInstruction mode before (Ok (Some it)) after = GivesInstruction (instruction table) mode before it after
NextInstruction mode before (Err e) after = GivesFailure (instruction table) mode before e after × (ahead before ≢ [])

-- The result of `next_before_end`: `None` at the final `end` of an expression, an instruction other
-- than `end`, or an error.
abbrev pub NextBeforeEnd : Mode → Walking → Result (Option Decoded) Failure → Walking → Type 0
NextBeforeEnd mode before (Ok None) after = (ahead before ≡ 0x0B ∷ drop (before.offset + 1) before.bytes) × (after ≡ before)
NextBeforeEnd mode before (Ok (Some it)) after = GivesInstruction (such IsNoEnd (instruction table)) mode before it after
NextBeforeEnd mode before (Err e) after = GivesFailure expression mode before e after
