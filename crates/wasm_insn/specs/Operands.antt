-- This file defines the operands of a decoded instruction: which immediates they are, and what
-- decoding to them means.
use Rattle.std.specs.Prelude.{◌≡◌, ℕ, List, [], ◌∷◌, ◌++◌, Bool, true, false}
use Rattle.wasm_base.specs.Words.{Format, Mode, standard, Decodes}
use Rattle.wasm_insn.specs.declared.op.Op.{Op}
use Rattle.wasm_insn.specs.declared.op.Shape.{Shape}
use Rattle.wasm_insn.specs.declared.op.Shape.TheVariants as shapes
use Rattle.wasm_insn.specs.declared.part.Part.{Part}
use Rattle.wasm_insn.specs.declared.operands.Operands.{Operands}
use Rattle.wasm_insn.specs.declared.operands.Operands.TheVariants as operands
use Rattle.wasm_insn.specs.Arguments.{Argument, unsigned, signed32, signed64, memory, block}
use Rattle.wasm_insn.specs.Parts.{parts_of}
use Rattle.wasm_insn.specs.Plain.{Plain, opcode, arguments}

-- Whether operands of this shape have a case of their own.
abbrev pub has_case : Shape → Bool
has_case shapes.Nothing = true
has_case shapes.U = true
has_case shapes.C32 = true
has_case shapes.C64 = true
has_case shapes.M = true
has_case shapes.B = true
has_case _ = false

-- The operands are these immediates. Encoded operands have a shape without a case of its own, and
-- are those that the bytes as a whole encode in the standard's grammar, which admits what the
-- builders' does.
abbrev pub AreOperands : Operands → List Argument → Type 0
AreOperands operands.Nothing xs = xs ≡ []
AreOperands (operands.U32 n) xs = xs ≡ unsigned n ∷ []
AreOperands (operands.S32 v) xs = xs ≡ signed32 v ∷ []
AreOperands (operands.S64 v) xs = xs ≡ signed64 v ∷ []
AreOperands (operands.Mem m) xs = xs ≡ memory m ∷ []
AreOperands (operands.Block type) xs = xs ≡ block type ∷ []
AreOperands (operands.Encoded shape bytes) xs = (has_case shape ≡ false) × arguments (parts_of shape) standard bytes.now xs

-- The operands are no immediates: their shape has a case of its own, or their bytes do not encode
-- immediates of their shape.
pub record AreNoOperands (given : Operands) : Type 0 where
  pub none : (xs : List Argument) → AreOperands given xs → ⊥

-- Encoded operands are the bytes of the input up to the remaining ones.
abbrev pub AreBytesBefore : Operands → List ℕ → List ℕ → Type 0
AreBytesBefore operands.Nothing bytes rest = Unit {0}
AreBytesBefore (operands.U32 n) bytes rest = Unit {0}
AreBytesBefore (operands.S32 v) bytes rest = Unit {0}
AreBytesBefore (operands.S64 v) bytes rest = Unit {0}
AreBytesBefore (operands.Mem m) bytes rest = Unit {0}
AreBytesBefore (operands.Block type) bytes rest = Unit {0}
AreBytesBefore (operands.Encoded shape own) bytes rest = bytes ≡ own.now ++ rest

-- Immediates of these types decode from the front of the bytes, and the operands are these.
pub record DecodesOperands (ps : List Part) (mode : Mode) (bytes : List ℕ) (given : Operands) (rest : List ℕ) : Type 0 where
  pub immediates : List Argument
  pub decodes : Decodes (arguments ps) mode bytes immediates rest
  pub operands : AreOperands given immediates
  pub own : AreBytesBefore given bytes rest

-- The opcode decodes from the front of the bytes. If the operands are kept encoded, they are the
-- bytes between it and the remaining ones.
pub record FollowOpcode (mode : Mode) (bytes : List ℕ) (op : Op) (given : Operands) (rest : List ℕ) : Type 0 where
  pub after : List ℕ
  pub decodes : Decodes opcode mode bytes op after
  pub own : AreBytesBefore given after rest

-- An instruction with this opcode and these operands decodes from the front of the bytes.
pub record DecodesOperation (F : Format Plain) (mode : Mode) (bytes : List ℕ) (op : Op) (given : Operands) (rest : List ℕ) : Type 0 where
  pub immediates : List Argument
  pub decodes : Decodes F mode bytes (record { op = op; arguments = immediates }) rest
  pub operands : AreOperands given immediates
  pub follow : FollowOpcode mode bytes op given rest
