-- This file proves that the cases are the rows of the table, and that each instruction is one of
-- the cases.
use Rattle.wasm_base.proofs.Words.{◌≡◌, ℕ, zero, suc, pos, List, [], ◌∷◌, false, cond, Some, None, refl, arith, Contains}
use Rattle.wasm_base.specs.declared.cow.CowSlice.{CowSlice}
use Rattle.wasm_base.specs.declared.types.HeapType.{HeapType}
use Rattle.wasm_base.specs.declared.types.RefType.{RefType}
use Rattle.std.proofs.Common.{slice_get}
use Rattle.wasm_insn.specs.declared.op.Op.{Op}
use Rattle.wasm_insn.specs.declared.instruction.Instruction.{Instruction}
use Rattle.wasm_insn.specs.declared.numeric.Numeric.{Numeric}
use Rattle.wasm_insn.specs.{Argument, unsigned, signed32, signed64, float32, float64, vector, memory, lane, lanes, block, heap, ordering, Given, all_cases, AreRows, IsCase, row_of, same_op, table}
use Rattle.wasm_insn.specs.Plain.{Table}
use Rattle.wasm_insn.specs.declared.op.Op.TheVariants.{Byte}
use Rattle.wasm_insn.specs.declared.aggregate.Aggregate.{Aggregate}
use Rattle.wasm_insn.specs.declared.prefixed_numeric.PrefixedNumeric.{PrefixedNumeric}
use Rattle.wasm_insn.specs.declared.vector.Vector.{Vector}
use Rattle.wasm_insn.specs.declared.vector_immediate.VectorImmediate.{VectorImmediate}
use Rattle.wasm_insn.specs.declared.atomic.Atomic.{Atomic}
use Rattle.wasm_base.specs.declared.cow.CowSlice.TheVariants as slices
use Rattle.wasm_base.specs.declared.types.HeapType.TheVariants as heaps
use Rattle.wasm_base.specs.declared.types.ValType.TheVariants as values
use Rattle.wasm_immediates.specs.declared.block_type.BlockType.TheVariants as blocks
use Rattle.wasm_immediates.specs.declared.memory.MemArgTarget.TheVariants as targets
use Rattle.wasm_immediates.specs.declared.memory.Ordering.TheVariants as orderings
use Rattle.wasm_insn.specs.declared.instruction.Instruction.TheVariants as cases
use Rattle.wasm_insn.specs.declared.numeric.Numeric.TheVariants as numeric
use Rattle.wasm_insn.specs.declared.aggregate.Aggregate.TheVariants as aggregate
use Rattle.wasm_insn.specs.declared.prefixed_numeric.PrefixedNumeric.TheVariants as prefixed_numeric
use Rattle.wasm_insn.specs.declared.vector.Vector.TheVariants as vectors
use Rattle.wasm_insn.specs.declared.vector_immediate.VectorImmediate.TheVariants as vector_immediate
use Rattle.wasm_insn.specs.declared.atomic.Atomic.TheVariants as atomic

pub all_rows : {A : Type 0} (given : Given A) → AreRows (all_cases given) table
unfolding table
all_rows given = record { ops = refl; parts = refl }

-- ---- the fields of an instruction

abbrev no_items : {T A : Type 0} → CowSlice T A
no_items = slices.Borrowed (record { ref_ptr = (0, 0); now = [] })

abbrev any_heap : HeapType
any_heap = heaps.Concrete 0

abbrev any_reference : RefType
any_reference = record { nullable = false; heap_type = any_heap }

-- The fields for an instruction without fields.
abbrev no_fields : {A : Type 0} → Given A
no_fields = record {
  index = 0;
  second_index = 0;
  lane = 0;
  lanes = [];
  signed = pos 0;
  float32 = record { bits = 0 };
  float64 = record { bits = 0 };
  memory = record { offset = 0; align = 0; target = targets.Memory 0; ordering = None };
  ordering = orderings.SeqCst;
  block = blocks.Empty;
  heap = any_heap;
  from = any_reference;
  to = any_reference;
  value = values.I32;
  labels = no_items;
  catches = no_items;
  types = no_items;
  handles = no_items;
}

-- A new index becomes the first, and the first becomes the second.
abbrev with_argument : {A : Type 0} → Argument → Given A → Given A
with_argument (unsigned n) given = record given { index = n; second_index = given.index }
with_argument (signed32 v) given = record given { signed = v }
with_argument (signed64 v) given = record given { signed = v }
with_argument (float32 float) given = record given { float32 = float }
with_argument (float64 float) given = record given { float64 = float }
with_argument (vector v) given = record given { signed = v }
with_argument (memory m) given = record given { memory = m }
with_argument (lane n) given = record given { lane = n }
with_argument (lanes ns) given = record given { lanes = ns }
with_argument (block type) given = record given { block = type }
with_argument (heap type) given = record given { heap = type }
with_argument (ordering o) given = record given { ordering = o }
with_argument _ given = given

abbrev with_arguments : {A : Type 0} → List Argument → Given A
with_arguments [] = no_fields
with_arguments (x ∷ xs) = with_argument x (with_arguments xs)

-- The fields of an instruction. Its row does not determine them: it hides whether a list is
-- borrowed, and which reference types the flags of a cast come from.
abbrev fields_of : {A : Type 0} → Instruction A → Given A
fields_of (cases.BrTable a b) = record no_fields { labels = a; index = b }
fields_of (cases.TypedSelect a) = record no_fields { value = a }
fields_of (cases.TypedSelectMulti a) = record no_fields { types = a }
fields_of (cases.TryTable a b) = record no_fields { block = a; catches = b }
fields_of (cases.Resume a b) = record no_fields { index = a; handles = b }
fields_of (cases.ResumeThrow a b c) = record no_fields { index = a; second_index = b; handles = c }
fields_of (cases.ResumeThrowRef a b) = record no_fields { index = a; handles = b }
fields_of (cases.BrOnCast a b c) = record no_fields { index = a; from = b; to = c }
fields_of (cases.BrOnCastFail a b c) = record no_fields { index = a; from = b; to = c }
fields_of (cases.BrOnCastDescEq a b c) = record no_fields { index = a; from = b; to = c }
fields_of (cases.BrOnCastDescEqFail a b c) = record no_fields { index = a; from = b; to = c }
fields_of i = with_arguments (row_of i).arguments

-- ---- its index in the table

-- The number of rows before the first one of the opcode.
abbrev position_in : Table → Op → ℕ
position_in [] op = 0
position_in (row ∷ rows) op = cond (same_op row.0 op) 0 (suc (position_in rows op))

-- The index of the instruction's row. Two rows have the opcode 1C.
abbrev position_of : {A : Type 0} → Instruction A → ℕ
position_of (cases.TypedSelectMulti a) = suc (position_in table (Byte 0x1C))
position_of i = position_in table (row_of i).op

abbrev HasPosition : {A : Type 0} → Instruction A → Type 0
HasPosition i = slice_get (all_cases (fields_of i)) (position_of i) ≡ Some i

numeric_at_position : {A : Type 0} (i : Numeric) → HasPosition {A = A} (cases.Numeric i)
unfolding table
numeric_at_position numeric.I32Eqz = refl
numeric_at_position _ = refl

aggregate_at_position : {A : Type 0} (i : Aggregate) → HasPosition {A = A} (cases.Aggregate i)
unfolding table
aggregate_at_position aggregate.ArrayLen = refl
aggregate_at_position _ = refl

prefixed_numeric_at_position : {A : Type 0} (i : PrefixedNumeric) → HasPosition {A = A} (cases.PrefixedNumeric i)
unfolding table
prefixed_numeric_at_position prefixed_numeric.I32TruncSatF32S = refl
prefixed_numeric_at_position _ = refl

vector_at_position : {A : Type 0} (i : Vector) → HasPosition {A = A} (cases.Vector i)
unfolding table
vector_at_position vectors.I8x16Swizzle = refl
vector_at_position _ = refl

vector_immediate_at_position : {A : Type 0} (i : VectorImmediate) → HasPosition {A = A} (cases.VectorImmediate i)
unfolding table
vector_immediate_at_position (vector_immediate.V128Load _) = refl
vector_immediate_at_position _ = refl

atomic_at_position : {A : Type 0} (i : Atomic) → HasPosition {A = A} (cases.Atomic i)
unfolding table
atomic_at_position (atomic.MemoryAtomicNotify _) = refl
atomic_at_position _ = refl

at_position : {A : Type 0} (i : Instruction A) → HasPosition i
unfolding table
at_position (cases.Numeric i) = numeric_at_position i
at_position (cases.Aggregate i) = aggregate_at_position i
at_position (cases.PrefixedNumeric i) = prefixed_numeric_at_position i
at_position (cases.Vector i) = vector_at_position i
at_position (cases.VectorImmediate i) = vector_immediate_at_position i
at_position (cases.Atomic i) = atomic_at_position i
at_position cases.Unreachable = refl
at_position _ = refl

found : {X : Type 0} (xs : List X) (k : ℕ) (x : X) → slice_get xs k ≡ Some x → Contains xs x
found [] k x e = absurd (cc e)
found (y ∷ xs) zero x e = (0, omega arith, cc e)
found (y ∷ xs) (suc k) x e = let h = found xs k x e in (suc h.0, omega (arith, h.1), h.2)

pub is_case : {A : Type 0} (i : Instruction A) → IsCase i
is_case i = record { fields = fields_of i; contained = found (all_cases (fields_of i)) (position_of i) i (at_position i) }
