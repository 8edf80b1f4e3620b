-- This file defines the calls among instructions.
use Rattle.std.specs.Prelude.{ℕ, List, [], ◌∷◌, Bool, false, ◌==◌, ◌&&◌}
use Rattle.wasm_insn.specs.declared.op.Op.TheVariants.{Byte}
use Rattle.wasm_insn.specs.Words.{Argument, unsigned, Plain, same_op}

-- Whether the immediates are this number alone.
abbrev pub is_number : ℕ → List Argument → Bool
is_number n (unsigned k ∷ []) = k == n
is_number n _ = false

-- Whether the instruction is a call of this function: `call` has the opcode 10.
abbrev pub is_call : ℕ → Plain → Bool
is_call function i = same_op i.op (Byte 0x10) && is_number function i.arguments
