-- This file defines the promises of calls on an instruction sink.
use Rattle.std.specs.Prelude.{◌≡◌, ◌≢◌, ℕ, ◌<◌, ◌≤◌, List, [], ◌∷◌, ◌++◌, length, Result, Err, OnOk, OnErr, IsOk, is_ok, Option, if◌then◌else◌}
use Rattle.std.specs.Iterator.{Count, Drains, Yields, size}
use Rattle.std.specs.List.{All}
use Rattle.std.specs.declared.alloc.Global.{Global}
use Rattle.wasm_base.specs.Words.{longest, vec_encoding, IsEncodableVec}
use Rattle.wasm_base.specs.declared.refused.Refused.{Refused}
use Rattle.wasm_base.specs.declared.refused.Refused.TheVariants.{TooLong}
use Rattle.wasm_insn.specs.declared.instruction.Instruction.{Instruction}
use Rattle.wasm_insn.specs.declared.op.Op.TheVariants.{Byte}
use Rattle.wasm_insn.specs.Arguments.{labels, unsigned}
use Rattle.wasm_insn.specs.Plain.{plain_encoding}
use Rattle.wasm_insn.specs.Instructions.{instruction_encoding, IsEncodableInstruction}

-- The old bytes, followed by the encoding if the call succeeds.
abbrev pub appended : Result (Unit {0}) Refused → List ℕ → List ℕ → List ℕ
appended result old encoding = if is_ok result then old ++ encoding else old

-- The sink gains the encoding, or the call returns an error and leaves the bytes as they were. If
-- the value fits, the call never returns `TooLong`, and it succeeds within the spare capacity.
pub record Writes (encoding : List ℕ) (encodable has_spare_capacity : Type 0) (old new : List ℕ) (result : Result (Unit {0}) Refused) : Type 0 where
  pub bytes : new ≡ appended result old encoding
  pub was_encodable : OnOk result encodable
  pub too_long : encodable → result ≢ Err TooLong
  pub spare : encodable → has_spare_capacity → IsOk result

-- The sink gains the encoding of the instruction, or the call returns an error and leaves the bytes
-- as they were.
abbrev pub WritesInstruction : {B : Type 0} → (B → List ℕ) → (B → ℕ → Type 0) → Instruction Global → B → B → Result (Unit {0}) Refused → Type 0
WritesInstruction written has_spare_capacity i old new result =
    Writes (instruction_encoding i) (IsEncodableInstruction i) (has_spare_capacity old (length (instruction_encoding i))) (written old) (written new) result

-- The sink gains `before`, the vector of the items that the iterator yields, and `after`; or the
-- call returns an error and changes nothing. If the iterator reports more than 2^32 - 1 items, the
-- error is `TooLong`.
pub record WritesVec {E I T : Type 0} (becomes : E → I → Type 0) (gives : I → Option T → I → Type 0) (remaining : I → Count) (Encodable : T → Type 0) (encoding : T → List ℕ)
    (elements : E) (others_encodable : Type 0) (before after old new : List ℕ) (result : Result (Unit {0}) Refused) : Type 0 where
  pub ok : OnOk result ((it : I) × (xs : List T) × becomes elements it × Drains gives it xs × IsEncodableVec Encodable xs × others_encodable × (new ≡ old ++ (before ++ (vec_encoding encoding xs ++ after))))
  pub err : OnErr result (new ≡ old)
  pub too_long : ((it : I) → becomes elements it → size (remaining it) ≤ longest)
      → ((it left : I) (xs : List T) → becomes elements it → Yields gives it xs left → All Encodable xs)
      → others_encodable
      → result ≢ Err TooLong
  pub too_many : ((it : I) → becomes elements it → longest < size (remaining it)) → result ≡ Err TooLong

-- The encoding of `br_table` with these labels and this default label.
abbrev pub br_table_encoding : List ℕ → ℕ → List ℕ
br_table_encoding ls default = plain_encoding (record { op = Byte 0x0E; arguments = labels ls ∷ unsigned default ∷ [] })

-- The sink gains `br_table` with the labels that the iterator yields, or the call returns an error
-- and changes nothing. If the iterator reports more than 2^32 - 1 labels, the error is `TooLong`.
pub record WritesLabels {E I : Type 0} (becomes : E → I → Type 0) (gives : I → Option ℕ → I → Type 0) (remaining : I → Count)
    (given : E) (default : ℕ) (old new : List ℕ) (result : Result (Unit {0}) Refused) : Type 0 where
  pub ok : OnOk result ((it : I) × (ls : List ℕ) × becomes given it × Drains gives it ls × (length ls ≤ longest) × (new ≡ old ++ br_table_encoding ls default))
  pub err : OnErr result (new ≡ old)
  pub too_long : ((it : I) → becomes given it → size (remaining it) ≤ longest) → result ≢ Err TooLong
  pub too_many : ((it : I) → becomes given it → longest < size (remaining it)) → result ≡ Err TooLong
