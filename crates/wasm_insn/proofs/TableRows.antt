-- This file proves that each case of the enums is a row of the table.
use Rattle.wasm_base.proofs.Words.{◌≡◌, ℕ, List, [], map, Bool, true, false, not, cond, eqb, ltb, ◌&&◌, ◌^◌, Option, Some, None, refl, ap, ◌∙◌, eqb-true, eqb-false, ltb-true, not-true, and_parts}
use Rattle.wasm_insn.specs.declared.op.Op.{Op}
use Rattle.wasm_insn.specs.declared.instruction.Instruction.{Instruction}
use Rattle.wasm_insn.specs.declared.numeric.Numeric.{Numeric}
use Rattle.wasm_insn.specs.{parts_of, part_of, is_prefix, shape_of, row_of, one_byte, after_fb, after_fc, after_fd, after_fe, table, shape_in, IsTableOp, IsRow, numeric_number, aggregate_number}
use Rattle.wasm_insn.specs.{prefixed_numeric_number, vector_number, vector_immediate_row, atomic_row}
use Rattle.wasm_insn.specs.Words.{Plain}
use Rattle.wasm_insn.specs.declared.op.Op.TheVariants.{Byte, Prefixed}
use Rattle.wasm_insn.specs.declared.op.Shape.{Shape}
use Rattle.wasm_insn.specs.declared.aggregate.Aggregate.{Aggregate}
use Rattle.wasm_insn.specs.declared.prefixed_numeric.PrefixedNumeric.{PrefixedNumeric}
use Rattle.wasm_insn.specs.declared.vector.Vector.{Vector}
use Rattle.wasm_insn.specs.declared.vector_immediate.VectorImmediate.{VectorImmediate}
use Rattle.wasm_insn.specs.declared.atomic.Atomic.{Atomic}
use Rattle.wasm_insn.specs.declared.part.Part.{Part}
use Rattle.wasm_insn.proofs.TableRuns.{byte_shape, fb_shape, fc_shape, fd_shape, fe_shape, no_prefix_shape}
use Rattle.wasm_insn.specs.declared.instruction.Instruction.TheVariants as cases
use Rattle.wasm_insn.specs.declared.numeric.Numeric.TheVariants as numeric
use Rattle.wasm_insn.specs.declared.aggregate.Aggregate.TheVariants as aggregate
use Rattle.wasm_insn.specs.declared.prefixed_numeric.PrefixedNumeric.TheVariants as prefixed_numeric
use Rattle.wasm_insn.specs.declared.vector.Vector.TheVariants as vector
use Rattle.wasm_insn.specs.declared.vector_immediate.VectorImmediate.TheVariants as vector_immediate
use Rattle.wasm_insn.specs.declared.atomic.Atomic.TheVariants as atomic

-- ---- a lookup by runs, for any opcode

abbrev by_runs : Op → Option Shape
by_runs (Byte n) = shape_in one_byte n
by_runs (Prefixed p n) = cond (eqb p 0xFB) (shape_in after_fb n) (cond (eqb p 0xFC) (shape_in after_fc n) (cond (eqb p 0xFD) (shape_in after_fd n) (cond (eqb p 0xFE) (shape_in after_fe n) None)))

prefixed : (p n : ℕ) (b c d e : Bool) → eqb p 0xFB ≡ b → eqb p 0xFC ≡ c → eqb p 0xFD ≡ d → eqb p 0xFE ≡ e
    → shape_of table (Prefixed p n) ≡ cond b (shape_in after_fb n) (cond c (shape_in after_fc n) (cond d (shape_in after_fd n) (cond e (shape_in after_fe n) None)))
prefixed p n true c d e hb hc hd he = ap (λ q. shape_of table (Prefixed q n)) (eqb-true p 0xFB hb) ∙ fb_shape n
prefixed p n false true d e hb hc hd he = ap (λ q. shape_of table (Prefixed q n)) (eqb-true p 0xFC hc) ∙ fc_shape n
prefixed p n false false true e hb hc hd he = ap (λ q. shape_of table (Prefixed q n)) (eqb-true p 0xFD hd) ∙ fd_shape n
prefixed p n false false false true hb hc hd he = ap (λ q. shape_of table (Prefixed q n)) (eqb-true p 0xFE he) ∙ fe_shape n
prefixed p n false false false false hb hc hd he = no_prefix_shape p n (eqb-false p 0xFB hb) (eqb-false p 0xFC hc) (eqb-false p 0xFD hd) (eqb-false p 0xFE he)

shape_by_runs : (op : Op) → shape_of table op ≡ by_runs op
shape_by_runs (Byte n) = byte_shape n
shape_by_runs (Prefixed p n) = prefixed p n (eqb p 0xFB) (eqb p 0xFC) (eqb p 0xFD) (eqb p 0xFE) refl refl refl refl

-- ---- the computation for each case

abbrev pub is_op : Op → Bool
is_op (Byte b) = ltb b 0x100 && not (is_prefix b)
is_op (Prefixed p n) = is_prefix p && ltb n (2 ^ 32)

pub op_is : (op : Op) → is_op op ≡ true → IsTableOp op
op_is (Byte b) e = let h = and_parts (ltb b 0x100) (not (is_prefix b)) e in (ltb-true b 0x100 h.0, not-true (is_prefix b) h.1)
op_is (Prefixed p n) e = let h = and_parts (is_prefix p) (ltb n (2 ^ 32)) e in (h.0, ltb-true n (2 ^ 32) h.1)

abbrev IfRow : Bool → Option Shape → List Part → Type 0
IfRow false shape ps = ⊥
IfRow true None ps = ⊥
IfRow true (Some shape) ps = ps ≡ parts_of shape

-- The opcode is in the table, and its shape in the runs is the one of these immediates.
abbrev Computes : Plain → Type 0
Computes i = IfRow (is_op i.op) (by_runs i.op) (map part_of i.arguments)

is_row : (i : Plain) → Computes i → IsRow table i
is_row i computed = go (is_op i.op) (by_runs i.op) refl refl computed
  where
    go : (test : Bool) (found : Option Shape) → is_op i.op ≡ test → by_runs i.op ≡ found → IfRow test found (map part_of i.arguments) → IsRow table i
    go false found e f h = absurd h
    go true None e f h = absurd h
    go true (Some s) e f h = record { op = op_is i.op e; shape = s; row = shape_by_runs i.op ∙ f; parts = h }

numeric_computes : (i : Numeric) → Computes (record { op = Byte (numeric_number i); arguments = [] })
numeric_computes numeric.I32Eqz = refl
numeric_computes _ = refl

aggregate_computes : (i : Aggregate) → Computes (record { op = Prefixed 0xFB (aggregate_number i); arguments = [] })
aggregate_computes aggregate.ArrayLen = refl
aggregate_computes _ = refl

prefixed_numeric_computes : (i : PrefixedNumeric) → Computes (record { op = Prefixed 0xFC (prefixed_numeric_number i); arguments = [] })
prefixed_numeric_computes prefixed_numeric.I32TruncSatF32S = refl
prefixed_numeric_computes _ = refl

vector_computes : (i : Vector) → Computes (record { op = Prefixed 0xFD (vector_number i); arguments = [] })
vector_computes vector.I8x16Swizzle = refl
vector_computes _ = refl

vector_immediate_computes : (i : VectorImmediate) → Computes (vector_immediate_row i)
vector_immediate_computes (vector_immediate.V128Load _) = refl
vector_immediate_computes _ = refl

atomic_computes : (i : Atomic) → Computes (atomic_row i)
atomic_computes (atomic.MemoryAtomicNotify _) = refl
atomic_computes _ = refl

computes : {A : Type 0} (i : Instruction A) → Computes (row_of i)
computes (cases.Numeric i) = numeric_computes i
computes (cases.Aggregate i) = aggregate_computes i
computes (cases.PrefixedNumeric i) = prefixed_numeric_computes i
computes (cases.Vector i) = vector_computes i
computes (cases.VectorImmediate i) = vector_immediate_computes i
computes (cases.Atomic i) = atomic_computes i
computes cases.Unreachable = refl
computes _ = refl

-- Each case is a row of the table.
pub instruction_row : {A : Type 0} (i : Instruction A) → IsRow table (row_of i)
instruction_row i = is_row (row_of i) (computes i)
