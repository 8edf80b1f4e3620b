-- This file proves that instructions are unambiguous for every table, and that well-formed ones
-- have their encoding.
use Rattle.wasm_base.proofs.Words.{◌≡◌, ℕ, ◌+◌, ◌*◌, ◌^◌, ◌<◌, List, [], ◌∷◌, ◌++◌, Bool, true, false, Option, Some, None, refl, sym, ap, subst, arith, ◌↔◌, minimal, unsigned_encoding, builders, u32}
use Rattle.wasm_base.proofs.Words.{mapped, when, DecodesUniquely, Unambiguous, UnambiguousPadded, val_type, val_encoding, IsVal, IsInjective, DeterminesTag, same_pair, when_unambiguous}
use Rattle.wasm_base.proofs.Words.{mapped_unambiguous, such_unambiguous, fixed_unambiguous, impossible_unambiguous, tagged_unambiguous, byte_unambiguous, little_endian_unambiguous}
use Rattle.wasm_base.proofs.Words.{raw_bytes_unambiguous, pair_unambiguous, Then_unambiguous, vec_unambiguous, u32_unambiguous, s32_unambiguous, s64_unambiguous, unambiguous_padded}
use Rattle.wasm_base.proofs.Words.{vector_unambiguous, heap_unambiguous, val_unambiguous, heap-encodings, val-encodings, decodes_uniquely, u32_encodes, s32_encodes, s64_encodes, little_endian_encodes}
use Rattle.wasm_base.proofs.Words.{vec_encodes, tagged_encodes}
use Rattle.wasm_base.specs.declared.types.RefType.{RefType}
use Rattle.std.specs.Prelude.{map}
use Rattle.wasm_insn.specs.declared.op.Op.{Op}
use Rattle.wasm_insn.specs.{op_encoding, parts_of, Argument, unsigned, signed32, signed64, float32, float64, vector, memory, lane, lanes, block, heap, ordering, labels, catches, types, handles, flag}
use Rattle.wasm_insn.specs.{part_of, argument_encoding, arguments_encoding, bit_of, cast_flag_of, IsWellFormed, plain_encoding, normal_argument, normal_arguments, normal, IsWellFormedArgument}
use Rattle.wasm_insn.specs.{AreWellFormed, float32_of, float64_of, part, cons, arguments, is_prefix, IsOpcode, op_after, opcode, shape_of, arguments_after, plain_of, instruction}
use Rattle.wasm_insn.specs.Words.{Plain}
use Rattle.wasm_insn.specs.Plain.{Table}
use Rattle.wasm_insn.specs.declared.op.Op.TheVariants.{Byte, Prefixed}
use Rattle.wasm_insn.specs.declared.op.Shape.{Shape}
use Rattle.wasm_immediates.proofs.Words.{catch_encoding, handle_encoding, normal_memory, IsWellFormedCatch, IsWellFormedHandle, catch, handle, ordering_unambiguous, mem_arg_unambiguous}
use Rattle.wasm_immediates.proofs.Words.{block_unambiguous, catch_unambiguous, handle_unambiguous, memory_encodes, block_encodes, catch_encodes, handle_encodes, vector_encodes}
use Rattle.wasm_insn.specs.declared.part.Part.{Part}
use Rattle.wasm_insn.specs.declared.part.Part.TheVariants as parts

-- ---- opcodes

abbrev op_tag : Op → ℕ
op_tag (Byte b) = b
op_tag (Prefixed p n) = p

op_determines : DeterminesTag op_after op_tag
op_determines mode b s x h = go (is_prefix b) h
  where
    go : (test : Bool) → when test (mapped (Prefixed b) u32) (λ mode s x. (s ≡ []) × (x ≡ Byte b)) mode s x → b ≡ op_tag x
    go true k = ap op_tag k.1
    go false k = ap op_tag (sym k.1)

pub opcode_unambiguous : Unambiguous opcode
opcode_unambiguous = tagged_unambiguous op_tag op_determines byte_unambiguous (λ b. when_unambiguous (is_prefix b) (mapped_unambiguous (Prefixed b) (λ x y e. cc) u32_unambiguous) (fixed_unambiguous [] (Byte b)))

pub opcode_encodes : (op : Op) → IsOpcode op → opcode minimal (op_encoding op) op
opcode_encodes (Byte b) h = tagged_encodes minimal b [] (Byte b) (rw h (refl, refl))
opcode_encodes (Prefixed p n) h = let prefix = h.0 in tagged_encodes minimal p (unsigned_encoding n) (Prefixed p n) (rw prefix (n, refl, u32_encodes n h.1))

-- ---- immediates and instructions

abbrev float_bits : Argument → ℕ
float_bits (float32 float) = float.bits
float_bits (float64 float) = float.bits
float_bits _ = 0

pub part_unambiguous : (p : Part) → Unambiguous (part p)
part_unambiguous parts.Unsigned = mapped_unambiguous unsigned (λ x y e. cc) u32_unambiguous
part_unambiguous parts.Signed32 = mapped_unambiguous signed32 (λ x y e. cc) s32_unambiguous
part_unambiguous parts.Signed64 = mapped_unambiguous signed64 (λ x y e. cc) s64_unambiguous
part_unambiguous parts.Float32 = mapped_unambiguous float32_of (λ x y e. ap float_bits e) (little_endian_unambiguous 4)
part_unambiguous parts.Float64 = mapped_unambiguous float64_of (λ x y e. ap float_bits e) (little_endian_unambiguous 8)
part_unambiguous parts.Vector = mapped_unambiguous vector (λ x y e. cc) vector_unambiguous
part_unambiguous parts.Memory = mapped_unambiguous memory (λ x y e. cc) mem_arg_unambiguous
part_unambiguous parts.Lane = mapped_unambiguous lane (λ x y e. cc) byte_unambiguous
part_unambiguous parts.Lanes = mapped_unambiguous lanes (λ x y e. cc) (raw_bytes_unambiguous 16)
part_unambiguous parts.Block = mapped_unambiguous block (λ x y e. cc) block_unambiguous
part_unambiguous parts.Heap = mapped_unambiguous heap (λ x y e. cc) heap_unambiguous
part_unambiguous parts.Ordering = mapped_unambiguous ordering (λ x y e. cc) ordering_unambiguous
part_unambiguous parts.Labels = mapped_unambiguous labels (λ x y e. cc) (vec_unambiguous u32_unambiguous)
part_unambiguous parts.Catches = mapped_unambiguous catches (λ x y e. cc) (vec_unambiguous catch_unambiguous)
part_unambiguous parts.Types = mapped_unambiguous types (λ x y e. cc) (vec_unambiguous val_unambiguous)
part_unambiguous parts.Handles = mapped_unambiguous handles (λ x y e. cc) (vec_unambiguous handle_unambiguous)
part_unambiguous parts.Flag = mapped_unambiguous flag (λ x y e. cc) (such_unambiguous (λ b. b < 4) byte_unambiguous)

cons_apart : {X : Type 0} (x y : X × List X) → cons x ≡ cons y → x ≡ y
cons_apart x y e =
    let first : x.0 ≡ y.0 = cc in
    let second : x.1 ≡ y.1 = cc in
    same_pair x y first second

pub arguments_unambiguous : (ps : List Part) → Unambiguous (arguments ps)
arguments_unambiguous [] = fixed_unambiguous [] []
arguments_unambiguous (p ∷ ps) = mapped_unambiguous cons cons_apart (pair_unambiguous (part_unambiguous p) (arguments_unambiguous ps))

arguments_after_unambiguous : (shape : Option Shape) → Unambiguous (arguments_after shape)
arguments_after_unambiguous None = impossible_unambiguous
arguments_after_unambiguous (Some shape) = arguments_unambiguous (parts_of shape)

plain_apart : IsInjective plain_of
plain_apart x y e = ap (λ i. (i.op, i.arguments)) e

pub instruction_unambiguous : (table : Table) → Unambiguous (instruction table)
instruction_unambiguous table = mapped_unambiguous plain_of plain_apart (Then_unambiguous opcode_unambiguous (λ op. arguments_after_unambiguous (shape_of table op)))

-- ---- the encodings of immediates

-- The encoding of an immediate encodes its normal form.
pub argument_encodes : (x : Argument) → IsWellFormedArgument x → part (part_of x) minimal (argument_encoding x) (normal_argument x)
argument_encodes (unsigned n) h = (n, refl, u32_encodes n h)
argument_encodes (signed32 v) h = (v, refl, s32_encodes v h)
argument_encodes (signed64 v) h = (v, refl, s64_encodes v h)
argument_encodes (float32 float) h = (float.bits, refl, little_endian_encodes 4 float.bits (omega (arith, h)))
argument_encodes (float64 float) h = (float.bits, refl, little_endian_encodes 8 float.bits (omega (arith, h)))
argument_encodes (vector v) h = (v, refl, vector_encodes v h)
argument_encodes (memory m) h = (normal_memory m, refl, memory_encodes m h)
argument_encodes (lane n) h = (n, refl, refl)
argument_encodes (lanes ns) h = (ns, refl, (refl, h))
argument_encodes (block type) h = (type, refl, block_encodes type h)
argument_encodes (heap type) h = (type, refl, heap-encodings.encodes type h)
argument_encodes (ordering o) h = (o, refl, refl)
argument_encodes (labels ns) h = (ns, refl, vec_encodes u32 (λ n. n < 2 ^ 32) unsigned_encoding u32_encodes ns h)
argument_encodes (catches cs) h = (cs, refl, vec_encodes catch IsWellFormedCatch catch_encoding catch_encodes cs h)
argument_encodes (types ts) h = (ts, refl, vec_encodes val_type IsVal val_encoding val-encodings.encodes ts h)
argument_encodes (handles hs) h = (hs, refl, vec_encodes handle IsWellFormedHandle handle_encoding handle_encodes hs h)
argument_encodes (flag n) h = (n, refl, (refl, h))

arguments_encodes : (xs : List Argument) → AreWellFormed xs → arguments (map part_of xs) minimal (arguments_encoding xs) (normal_arguments xs)
arguments_encodes [] h = (refl, refl)
arguments_encodes (x ∷ xs) h = (
  (normal_argument x, normal_arguments xs),
  refl,
  record { front = argument_encoding x; back = arguments_encoding xs; joined = refl; first = argument_encodes x h.0; second = arguments_encodes xs h.1 },
)

-- ---- the encodings of instructions

-- The encoding of a well-formed instruction encodes its normal form.
pub encodes : (table : Table) (i : Plain) (shape : Shape) → IsOpcode i.op → shape_of table i.op ≡ Some shape → map part_of i.arguments ≡ parts_of shape → AreWellFormed i.arguments
    → instruction table minimal (op_encoding i.op ++ arguments_encoding i.arguments) (normal i)
encodes table i shape is_op row given plain =
    let encoded = arguments_encodes i.arguments plain in
    let there : arguments_after (shape_of table i.op) minimal (arguments_encoding i.arguments) (normal_arguments i.arguments) =
    rw row (subst (λ ps. arguments ps minimal (arguments_encoding i.arguments) (normal_arguments i.arguments)) given encoded) in (
      (i.op, normal_arguments i.arguments),
      refl,
      record { front = op_encoding i.op; back = arguments_encoding i.arguments; joined = refl; first = opcode_encodes i.op is_op; second = there },
    )

pub plain_encodes : (table : Table) (i : Plain) → IsWellFormed table i → instruction table minimal (plain_encoding i) (normal i)
plain_encodes table i h = encodes table i h.shape h.opcode h.row h.parts h.arguments

-- The encoding of a well-formed instruction decodes to its normal form alone.
pub plain_unambiguous : (table : Table) (i : Plain) → IsWellFormed table i → DecodesUniquely (instruction table) (plain_encoding i) (normal i)
plain_unambiguous table i h = decodes_uniquely {F = instruction table} (instruction_unambiguous table) (plain_encodes table i h)

-- Two well-formed instructions have the same encoding exactly if they have the same normal form.
pub same_encoding : (table : Table) (i j : Plain) → IsWellFormed table i → IsWellFormed table j → (plain_encoding i ≡ plain_encoding j) ↔ (normal i ≡ normal j)
same_encoding table i j h g =
    let f = instruction_unambiguous table in
    let a = plain_encodes table i h in
    let b = plain_encodes table j g in (
      (λ e. (f.unique minimal (plain_encoding i) (plain_encoding j) [] [] (normal i) (normal j) a b (ap (λ s. s ++ []) e)).0),
      (λ e. f.encodings.one builders (plain_encoding i) (plain_encoding j) (normal j) (subst (λ x. instruction table minimal (plain_encoding i) x) e a) b),
    )

-- ---- for the laws

-- The flags of a cast are below 4.
pub cast_flag_below : (from to : RefType) → cast_flag_of from to < 4
cast_flag_below from to = below from.nullable to.nullable
  where
    below : (a b : Bool) → bit_of a + 2 * bit_of b < 4
    below false false = omega arith
    below false true = omega arith
    below true false = omega arith
    below true true = omega arith

pub padded-opcode : UnambiguousPadded opcode
padded-opcode = unambiguous_padded opcode_unambiguous
