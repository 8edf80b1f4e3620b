-- This file defines the encoding of opcodes.
use Rattle.std.specs.Prelude.{ℕ, List, [], ◌∷◌}
use Rattle.wasm_base.specs.Words.{unsigned_encoding}
use Rattle.wasm_insn.specs.declared.op.Op.{Op}
use Rattle.wasm_insn.specs.declared.op.Op.TheVariants.{Byte, Prefixed}

-- The encoding of an opcode: its byte, or its prefix and an unsigned number. Core specification,
-- Binary Format, Instructions.
abbrev pub op_encoding : Op → List ℕ
op_encoding (Byte b) = b ∷ []
op_encoding (Prefixed prefix number) = prefix ∷ unsigned_encoding number
