-- This file proves the laws of the opcode table and of its instructions.
use Rattle.wasm_base.proofs.Words.{◌≡◌, ℕ, ◌^◌, ◌<◌, List, [], ◌∷◌, ◌++◌, Bool, true, false, Some, ◌&&◌, refl, sym, ap, ◌∙◌, append-nil, AllByRecursion, and_parts, Mode, minimal, members, Unambiguous}
use Rattle.wasm_base.proofs.Words.{UnambiguousWhole, HasMinimalEncodings, UnambiguousPadded, UnambiguousWholePadded, BeginsWith, IsEncodableVec, unambiguous_padded, unambiguous_whole_padded}
use Rattle.wasm_base.proofs.Words.{members_whole, tagged_encodes}
use Rattle.wasm_insn.specs.declared.op.Op.{Op}
use Rattle.wasm_insn.specs.declared.instruction.Instruction.{Instruction}
use Rattle.wasm_insn.specs.{op_encoding, parts_of, part, arguments, is_prefix, shape_of, IsOpcode, IsWellFormed, opcode, instruction, table, IsTableOp, IsOpcodeTable, BeginsNoOther, row_of}
use Rattle.wasm_insn.specs.{IsWellFormedInstruction, DecodesInstruction, HaveOneEncoding, Argument, labels, unsigned, br_table_encoding}
use Rattle.wasm_insn.specs.Words.{Plain}
use Rattle.wasm_insn.specs.Plain.{Table}
use Rattle.wasm_insn.specs.declared.op.Op.TheVariants.{Byte, Prefixed}
use Rattle.wasm_insn.specs.declared.op.Shape.{Shape}
use Rattle.wasm_insn.specs.declared.op.Shape.TheVariants.{Bt}
use Rattle.wasm_insn.specs.declared.part.Part.{Part}
use Rattle.wasm_insn.proofs.PlainLaws.{opcode_unambiguous, opcode_encodes, instruction_unambiguous, plain_encodes, plain_unambiguous, same_encoding, padded-opcode}
use Rattle.wasm_insn.proofs.TableRows.{is_op, op_is, instruction_row}
use Rattle.wasm_insn.proofs.TableRuns.{byte_shape}

-- ---- the table

abbrev has_ops : Table → Bool
has_ops [] = true
has_ops (row ∷ rows) = is_op row.0 && has_ops rows

all_ops : (rows : Table) → has_ops rows ≡ true → AllByRecursion (λ row. IsTableOp row.0) rows
all_ops [] e = tt
all_ops (row ∷ rows) e = let h = and_parts (is_op row.0) (has_ops rows) e in (op_is row.0 h.0, all_ops rows h.1)

pub table-is : IsOpcodeTable table
unfolding table
table-is = record { row_count = refl; op_count = refl; ops = all_ops table refl; ascending = refl; shared = refl }

as_opcode : (op : Op) → IsTableOp op → IsOpcode op
as_opcode (Byte b) h = h.1
as_opcode (Prefixed p n) h = h

pub apart : BeginsNoOther
apart = record {
  for_each = λ a b x y h g e.
      (opcode_unambiguous.unique minimal (op_encoding a) (op_encoding b) x y a b (opcode_encodes a (as_opcode a h)) (opcode_encodes b (as_opcode b g)) e).0;
}

pub opcode-encodings : HasMinimalEncodings opcode IsOpcode op_encoding
opcode-encodings = record { encodes = opcode_encodes }

pub ruleset opcodes = (opcode-encodings, table-is, apart, opcode_unambiguous)

-- ---- instructions

is_plain : {A : Type 0} (i : Instruction A) → IsWellFormedInstruction i → IsWellFormed table (row_of i)
is_plain i h =
    let row = instruction_row i in
    record { shape = row.shape; opcode = as_opcode (row_of i).op row.op; row = row.row; parts = row.parts; arguments = h }

pub decodes : {A : Type 0} (i : Instruction A) → DecodesInstruction i
decodes i = record { unique = λ h. plain_unambiguous table (row_of i) (is_plain i h) }

pub one_encoding : {A : Type 0} (i j : Instruction A) → HaveOneEncoding i j
one_encoding i j = record { exactly = λ h g. same_encoding table (row_of i) (row_of j) (is_plain i h) (is_plain j g) }

abbrev br_table_row : List ℕ → ℕ → Plain
br_table_row ls default = record { op = Byte 0x0E; arguments = labels ls ∷ unsigned default ∷ [] }

-- The encoding of `br_table` encodes its row if its labels are in range and fit.
pub br_table_encodes : (ls : List ℕ) (default : ℕ) → IsEncodableVec (λ n. n < 2 ^ 32) ls → default < 2 ^ 32 → instruction table minimal (br_table_encoding ls default) (br_table_row ls default)
br_table_encodes ls default encodable range = plain_encodes table (br_table_row ls default) (record { shape = Bt; opcode = refl; row = byte_shape 0x0E; parts = refl; arguments = (encodable, (range, tt)) })

pub unique : Unambiguous (instruction table)
unique = instruction_unambiguous table

-- An instruction with a one-byte opcode encodes its immediates, minimally or padded.
pub byte_encodes : (mode : Mode) (b : ℕ) (bytes : List ℕ) (shape : Shape) (xs : List Argument) → is_prefix b ≡ false → shape_of table (Byte b) ≡ Some shape → arguments (parts_of shape) mode bytes xs
    → instruction table mode (b ∷ bytes) (record { op = Byte b; arguments = xs })
byte_encodes mode b bytes shape xs other row encodes =
    ((Byte b, xs), refl, record { front = b ∷ []; back = bytes; joined = refl; first = tagged_encodes mode b [] (Byte b) (rw other (refl, refl)); second = rw row encodes })

pub one_argument : (mode : Mode) (p : Part) (bytes : List ℕ) (x : Argument) → part p mode bytes x → arguments (p ∷ []) mode bytes (x ∷ [])
one_argument mode p bytes x h = ((x, []), refl, record { front = bytes; back = []; joined = sym (append-nil bytes); first = h; second = (refl, refl) })

pub padded-instruction : UnambiguousPadded (instruction table)
padded-instruction = unambiguous_padded unique

-- The encoding of an instruction is not empty.
pub any_begins : BeginsWith (λ b. Unit {0}) (instruction table)
any_begins mode s i h =
    let op = h.2.first in
    (op.0.0, op.2.back ++ h.2.back, h.2.joined ∙ ap (λ z. z ++ h.2.back) (op.2.joined ∙ ap (λ z. z ++ op.2.back) op.2.first), tt)

pub lists_whole : UnambiguousWhole (members (instruction table))
lists_whole = members_whole (λ b. Unit {0}) any_begins unique

pub ruleset lists = (lists_whole)

pub padded-lists : UnambiguousWholePadded (members (instruction table))
padded-lists = unambiguous_whole_padded lists_whole

pub ruleset padded = (padded-lists, padded-opcode, padded-instruction)
