-- This file defines the opcode table: a row for each instruction, one-byte opcodes first, then by
-- prefix and number. Core specification, Binary Format, Instructions; docs/FORMAT.md lists the rows
-- that are not in it.
use Rattle.std.specs.Prelude.{◌≡◌, ℕ, ◌+◌, ◌-◌, ◌*◌, ◌^◌, ◌<◌, zero, suc, Bool, true, false, ◌&&◌, nat_le, List, [], ◌∷◌, ◌++◌, Option, Some, cond, map, IsTrue, length}
use Rattle.std.specs.List.{AllByRecursion, find, flat_map}
use Rattle.std.specs.Option.{option_map}
use Rattle.wasm_insn.specs.declared.op.Op.{Op}
use Rattle.wasm_insn.specs.declared.op.Op.TheVariants.{Byte, Prefixed}
use Rattle.wasm_insn.specs.declared.op.Shape.{Shape}
-- begin: written by tools/instructions
use Rattle.wasm_insn.specs.declared.op.Shape.TheVariants.{Nothing, U, Uu, M, Ml, L, B, H, O, Ou, Ouu, C32, C64, F32, F64, V, Ls, Bt, Tt, Ts, K, Uh, Uuh}
-- end: written by tools/instructions
use Rattle.wasm_insn.specs.declared.table.Run.{Run}
use Rattle.wasm_insn.specs.Opcodes.{op_encoding}
use Rattle.wasm_insn.specs.Parts.{parts_of}
use Rattle.wasm_insn.specs.Arguments.{part_of}
use Rattle.wasm_insn.specs.Plain.{Table, Plain, same_op, is_prefix, shape_of}

-- The opcodes with the numbers `first` to `last`, which have the same shape.
abbrev pub run : ℕ → ℕ → Shape → Run
run first last shape = record { 0 = first; 1 = last; 2 = shape }

-- One-byte opcodes. 1C has two rows, for `TypedSelect` and `TypedSelectMulti`.
abbrev pub one_byte : List Run
one_byte =
    -- begin: written by tools/instructions
    run 0x00 0x01 Nothing ∷
    run 0x02 0x04 B ∷
    run 0x05 0x05 Nothing ∷
    run 0x06 0x06 B ∷
    run 0x07 0x09 U ∷
    run 0x0A 0x0B Nothing ∷
    run 0x0C 0x0D U ∷
    run 0x0E 0x0E Bt ∷
    run 0x0F 0x0F Nothing ∷
    run 0x10 0x10 U ∷
    run 0x11 0x11 Uu ∷
    run 0x12 0x12 U ∷
    run 0x13 0x13 Uu ∷
    run 0x14 0x15 U ∷
    run 0x18 0x18 U ∷
    run 0x19 0x1B Nothing ∷
    run 0x1C 0x1C Ts ∷
    run 0x1C 0x1C Ts ∷
    run 0x1F 0x1F Tt ∷
    run 0x20 0x26 U ∷
    run 0x28 0x3E M ∷
    run 0x3F 0x40 U ∷
    run 0x41 0x41 C32 ∷
    run 0x42 0x42 C64 ∷
    run 0x43 0x43 F32 ∷
    run 0x44 0x44 F64 ∷
    run 0x45 0xC4 Nothing ∷
    run 0xD0 0xD0 H ∷
    run 0xD1 0xD1 Nothing ∷
    run 0xD2 0xD2 U ∷
    run 0xD3 0xD4 Nothing ∷
    run 0xD5 0xD6 U ∷
    run 0xE0 0xE0 U ∷
    run 0xE1 0xE1 Uu ∷
    run 0xE2 0xE2 U ∷
    run 0xE3 0xE3 Uh ∷
    run 0xE4 0xE4 Uuh ∷
    run 0xE5 0xE5 Uh ∷
    run 0xE6 0xE6 Uu ∷
    -- end: written by tools/instructions
    []

-- Opcodes after the prefix FB.
abbrev pub after_fb : List Run
after_fb =
    -- begin: written by tools/instructions
    run 0 1 U ∷
    run 2 5 Uu ∷
    run 6 7 U ∷
    run 8 10 Uu ∷
    run 11 14 U ∷
    run 15 15 Nothing ∷
    run 16 16 U ∷
    run 17 19 Uu ∷
    run 20 23 H ∷
    run 24 25 K ∷
    run 26 30 Nothing ∷
    run 32 34 U ∷
    run 35 36 H ∷
    run 37 38 K ∷
    -- end: written by tools/instructions
    []

-- Opcodes after the prefix FC.
abbrev pub after_fc : List Run
after_fc =
    -- begin: written by tools/instructions
    run 0 7 Nothing ∷
    run 8 8 Uu ∷
    run 9 9 U ∷
    run 10 10 Uu ∷
    run 11 11 U ∷
    run 12 12 Uu ∷
    run 13 13 U ∷
    run 14 14 Uu ∷
    run 15 18 U ∷
    run 19 22 Nothing ∷
    -- end: written by tools/instructions
    []

-- Opcodes after the prefix FD.
abbrev pub after_fd : List Run
after_fd =
    -- begin: written by tools/instructions
    run 0 11 M ∷
    run 12 12 V ∷
    run 13 13 Ls ∷
    run 14 20 Nothing ∷
    run 21 34 L ∷
    run 35 83 Nothing ∷
    run 84 91 Ml ∷
    run 92 93 M ∷
    run 94 153 Nothing ∷
    run 155 161 Nothing ∷
    run 163 164 Nothing ∷
    run 167 174 Nothing ∷
    run 177 177 Nothing ∷
    run 181 186 Nothing ∷
    run 188 193 Nothing ∷
    run 195 196 Nothing ∷
    run 199 206 Nothing ∷
    run 209 209 Nothing ∷
    run 213 225 Nothing ∷
    run 227 237 Nothing ∷
    run 239 275 Nothing ∷
    -- end: written by tools/instructions
    []

-- Opcodes after the prefix FE.
abbrev pub after_fe : List Run
after_fe =
    -- begin: written by tools/instructions
    run 0x00 0x02 M ∷
    run 0x03 0x03 O ∷
    run 0x04 0x04 Nothing ∷
    run 0x10 0x4E M ∷
    run 0x4F 0x5B Ou ∷
    run 0x5C 0x66 Ouu ∷
    run 0x67 0x71 Ou ∷
    run 0x72 0x72 Nothing ∷
    -- end: written by tools/instructions
    []

-- The first `k` numbers from `n` on.
abbrev pub count_up : ℕ → ℕ → List ℕ
count_up zero n = []
count_up (suc k) n = n ∷ count_up k (n + 1)

-- The rows of a run: its opcodes, each with the shape.
abbrev pub rows_of : (ℕ → Op) → Run → Table
rows_of op r = map (λ n. (op n, r.2)) (count_up (r.1 + 1 - r.0) r.0)

-- The rows of the one-byte opcodes, then of the opcodes after each prefix.
abbrev pub table_of : (bytes fb fc fd fe : List Run) → Table
table_of bytes fb fc fd fe =
    flat_map (rows_of Byte) bytes
    ++ (flat_map (rows_of (Prefixed 0xFB)) fb
    ++ (flat_map (rows_of (Prefixed 0xFC)) fc
    ++ (flat_map (rows_of (Prefixed 0xFD)) fd
    ++ (flat_map (rows_of (Prefixed 0xFE)) fe ++ []))))

-- The opcode table of 628 rows.
unfoldable pub table : Table
table = table_of one_byte after_fb after_fc after_fd after_fe

-- ---- lookup by runs

-- Whether the run has this number.
abbrev pub has_number : ℕ → Run → Bool
has_number n r = nat_le r.0 n && nat_le n r.1

-- The shape of the run that has the number.
abbrev pub shape_in : List Run → ℕ → Option Shape
shape_in runs n = option_map (λ r. r.2) (find (has_number n) runs)

-- ---- properties of the table

-- The rank of an opcode in the order of the table.
abbrev pub rank : Op → ℕ
rank (Byte b) = b
rank (Prefixed p n) = p * 2 ^ 32 + n

-- A byte that is not a prefix, or a prefix with a number below 2^32.
abbrev pub IsTableOp : Op → Type 0
IsTableOp (Byte b) = (b < 0x100) × (is_prefix b ≡ false)
IsTableOp (Prefixed p n) = (is_prefix p ≡ true) × (n < 2 ^ 32)

-- No row's opcode comes before that of the row above it.
abbrev pub ascends : Table → Bool
ascends [] = true
ascends (row ∷ []) = true
ascends (row ∷ next ∷ rows) = nat_le (rank row.0) (rank next.0) && ascends (next ∷ rows)

-- The opcodes that a row shares with the row above it.
abbrev pub shared_ops : Table → List Op
shared_ops [] = []
shared_ops (row ∷ []) = []
shared_ops (row ∷ next ∷ rows) = cond (same_op row.0 next.0) (row.0 ∷ shared_ops (next ∷ rows)) (shared_ops (next ∷ rows))

-- The opcodes of the rows, without repeating one that neighbours share.
abbrev pub ops_of : Table → List Op
ops_of [] = []
ops_of (row ∷ []) = row.0 ∷ []
ops_of (row ∷ next ∷ rows) = cond (same_op row.0 next.0) (ops_of (next ∷ rows)) (row.0 ∷ ops_of (next ∷ rows))

-- begin: written by tools/instructions
-- The table has 628 rows on 627 opcodes, in ascending order. Two neighbours share the opcode 1C,
-- and no others share one.
pub record IsOpcodeTable (rows : Table) : Type 0 where
  pub row_count : length rows ≡ 628
  pub op_count : length (ops_of rows) ≡ 627
  -- end: written by tools/instructions
  pub ops : AllByRecursion (λ row. IsTableOp row.0) rows
  pub ascending : IsTrue (ascends rows)
  pub shared : shared_ops rows ≡ Byte 0x1C ∷ []

-- The opcodes are prefix-free: if two encodings begin the same bytes, they are of the same opcode.
pub record BeginsNoOther : Type 0 where
  pub for_each : (a b : Op) (x y : List ℕ) → IsTableOp a → IsTableOp b → op_encoding a ++ x ≡ op_encoding b ++ y → a ≡ b

-- The opcode is in the table, and the instruction has an immediate for each of its shape.
pub record IsRow (rows : Table) (i : Plain) : Type 0 where
  pub op : IsTableOp i.op
  pub shape : Shape
  pub row : shape_of rows i.op ≡ Some shape
  pub parts : map part_of i.arguments ≡ parts_of shape
