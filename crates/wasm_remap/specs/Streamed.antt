-- This file defines the promises of calls that decode a value, map its indices and append it, in one
-- pass over the bytes.
use Rattle.std.specs.Prelude.{◌≡◌, ℕ, ◌&&◌, ◌||◌, nat_le, List, [], ◌∷◌, ◌++◌, Bool, false}
use Rattle.wasm_base.specs.Decoding.{Decodes}
use Rattle.wasm_base.specs.Formats.{Format}
use Rattle.wasm_base.specs.Numbers.{standard, standard_minimal}
use Rattle.wasm_insn.specs.Arguments.{Argument}
use Rattle.wasm_insn.specs.Operands.{AreOperands}
use Rattle.wasm_insn.specs.declared.operands.Operands.{Operands}
use Rattle.wasm_remap.specs.Instructions.{remapped_arguments}
use Rattle.wasm_remap.specs.Mapping.{Mapping}
use Rattle.wasm_remap.specs.Spaces.{Spaces}

-- Some bytes decode to the value in the standard's grammar.
abbrev pub HasForm : {X : Type 0} → Format X → X → Type 0
HasForm F x = (s : List ℕ) × F standard s x

-- The buffer gains the minimal encoding of the value in the standard's grammar, if some bytes decode
-- to the value there.
pub record AppendsForm {X : Type 0} (F : Format X) (x : X) (old new : List ℕ) : Type 0 where
  pub encoding : List ℕ
  pub appended : new ≡ old ++ encoding
  pub encodes : HasForm F x → F standard_minimal encoding x

-- A value decodes from the front of the bytes, and `rest` follows it. The buffer gains `f` of the
-- value.
pub record Remaps {X : Type 0} (f : X → X) (F : Format X) (bytes rest old new : List ℕ) : Type 0 where
  pub value : X
  pub decoded : Decodes F standard bytes value rest
  pub appends : AppendsForm F (f value) old new

-- The same for a value that occupies all of the bytes.
pub record RemapsWhole {X : Type 0} (f : X → X) (F : Format X) (bytes old new : List ℕ) : Type 0 where
  pub value : X
  pub decoded : F standard bytes value
  pub appends : AppendsForm F (f value) old new

-- ---- instructions without an index

-- Whether the number is in one of the ranges.
abbrev pub is_within : List (ℕ × ℕ) → ℕ → Bool
is_within [] n = false
is_within (r ∷ rs) n = (nat_le r.0 n && nat_le n r.1) || is_within rs n

-- One-byte opcodes without an index: of control and parametric instructions, of locals, and the
-- numeric ones.
abbrev pub bytes_without_index : List (ℕ × ℕ)
bytes_without_index = (0x00, 0x01) ∷ (0x05, 0x05) ∷ (0x0B, 0x0F) ∷ (0x1A, 0x1B) ∷ (0x20, 0x22) ∷ (0x41, 0xC4) ∷ []

-- No map changes these operands, whatever opcode they follow.
pub record HaveNoIndex (given : Operands) : Type 0 where
  pub stay : (m : Mapping) (s : Spaces) (xs : List Argument) → AreOperands given xs → remapped_arguments m s xs ≡ xs
