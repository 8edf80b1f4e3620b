-- This file defines instructions as opcode and immediates: when they are well-formed, their normal
-- form and their format.
use Rattle.std.specs.Prelude.{◌≡◌, ℕ, map, ◌++◌, ◌^◌, ◌<◌, List, [], ◌∷◌, length, Bool, true, false, ◌==◌, ◌&&◌, cond, nat_le, Option, Some, None, ⊤}
use Rattle.std.specs.List.{AllByRecursion}
use Rattle.wasm_base.specs.Words.{Format, u32, s32, s64, byte, raw_bytes, little_endian, fixed, impossible, mapped, such, when, tagged, pair, Then, vec, IsVector, vector_format, IsSigned32InRange}
use Rattle.wasm_base.specs.Words.{IsSigned64InRange, IsEncodableVec, heap_type, val_type, IsHeap, IsVal}
use Rattle.wasm_immediates.specs.Words.{normal_memory, IsWellFormedMemory, IsWellFormedBlock, IsWellFormedCatch, IsWellFormedHandle, ordering_format, block_type, mem_arg, catch, handle}
use Rattle.wasm_insn.specs.declared.op.Op.{Op}
use Rattle.wasm_insn.specs.declared.op.Op.TheVariants.{Byte, Prefixed}
use Rattle.wasm_insn.specs.declared.op.Shape.{Shape}
use Rattle.wasm_insn.specs.Opcodes.{op_encoding}
use Rattle.wasm_insn.specs.declared.part.Part.{Part}
use Rattle.wasm_insn.specs.Parts.{parts_of}
use Rattle.wasm_insn.specs.Arguments.{Argument, unsigned, signed32, signed64, float32, float64, vector, memory, lane, lanes, block, heap, ordering, labels, catches, types, handles, flag, part_of}
use Rattle.wasm_insn.specs.Arguments.{arguments_encoding}
use Rattle.wasm_insn.specs.declared.part.Part.TheVariants as parts

-- ---- normal form

-- The normal form of an immediate: a memory argument in normal form, and any other as it is.
abbrev pub normal_argument : Argument → Argument
normal_argument (memory m) = memory (normal_memory m)
normal_argument x = x

-- An instruction: an opcode and immediates.
pub record Plain : Type 0 where
  pub op : Op
  pub arguments : List Argument

-- The immediates, each in normal form.
abbrev pub normal_arguments : List Argument → List Argument
normal_arguments [] = []
normal_arguments (x ∷ xs) = normal_argument x ∷ normal_arguments xs

-- The normal form of an instruction: its immediates in normal form.
abbrev pub normal : Plain → Plain
normal i = record { op = i.op; arguments = normal_arguments i.arguments }

-- ---- well-formed immediates

-- The immediate is well-formed: numbers are in the range of their type, alignments below 16 and
-- flags of a cast below 4. Lists have at most 2^32 - 1 members, and there are 16 lanes.
abbrev pub IsWellFormedArgument : Argument → Type 0
IsWellFormedArgument (unsigned n) = n < 2 ^ 32
IsWellFormedArgument (signed32 v) = IsSigned32InRange v
IsWellFormedArgument (signed64 v) = IsSigned64InRange v
IsWellFormedArgument (float32 float) = float.bits < 2 ^ 32
IsWellFormedArgument (float64 float) = float.bits < 2 ^ 64
IsWellFormedArgument (vector v) = IsVector v
IsWellFormedArgument (memory m) = IsWellFormedMemory m
IsWellFormedArgument (lane n) = ⊤
IsWellFormedArgument (lanes ns) = length ns ≡ 16
IsWellFormedArgument (block type) = IsWellFormedBlock type
IsWellFormedArgument (heap type) = IsHeap type
IsWellFormedArgument (ordering o) = ⊤
IsWellFormedArgument (labels ns) = IsEncodableVec (λ n. n < 2 ^ 32) ns
IsWellFormedArgument (catches cs) = IsEncodableVec IsWellFormedCatch cs
IsWellFormedArgument (types ts) = IsEncodableVec IsVal ts
IsWellFormedArgument (handles hs) = IsEncodableVec IsWellFormedHandle hs
IsWellFormedArgument (flag n) = n < 4

-- Each immediate is well-formed.
abbrev pub AreWellFormed : List Argument → Type 0
AreWellFormed = AllByRecursion IsWellFormedArgument

-- The alignment of a memory argument is below 16.
abbrev pub HasSmallAlignment : Argument → Type 0
HasSmallAlignment (memory m) = m.align < 16
HasSmallAlignment _ = ⊤

-- The alignment of each memory argument is below 16.
abbrev pub HaveSmallAlignments : List Argument → Type 0
HaveSmallAlignments = AllByRecursion HasSmallAlignment

-- ---- formats of immediates, opcodes and instructions

-- The immediate of a 32-bit float with these bits.
abbrev pub float32_of : ℕ → Argument
float32_of bits = float32 (record { bits = bits })

-- The immediate of a 64-bit float with these bits.
abbrev pub float64_of : ℕ → Argument
float64_of bits = float64 (record { bits = bits })

-- The format of an immediate, by its type.
abbrev pub part : Part → Format Argument
part parts.Unsigned = mapped unsigned u32
part parts.Signed32 = mapped signed32 s32
part parts.Signed64 = mapped signed64 s64
part parts.Float32 = mapped float32_of (little_endian 4)
part parts.Float64 = mapped float64_of (little_endian 8)
part parts.Vector = mapped vector vector_format
part parts.Memory = mapped memory mem_arg
part parts.Lane = mapped lane byte
part parts.Lanes = mapped lanes (raw_bytes 16)
part parts.Block = mapped block block_type
part parts.Heap = mapped heap heap_type
part parts.Ordering = mapped ordering ordering_format
part parts.Labels = mapped labels (vec u32)
part parts.Catches = mapped catches (vec catch)
part parts.Types = mapped types (vec val_type)
part parts.Handles = mapped handles (vec handle)
part parts.Flag = mapped flag (such (λ b. b < 4) byte)

-- The list of a first member and the other members.
abbrev pub cons : {X : Type 0} → X × List X → List X
cons p = p.0 ∷ p.1

-- One immediate of each type, in order.
abbrev pub arguments : List Part → Format (List Argument)
arguments [] = fixed [] []
arguments (p ∷ ps) = mapped cons (pair (part p) (arguments ps))

-- Whether the byte is a prefix of opcodes: FB, FC, FD or FE.
abbrev pub is_prefix : ℕ → Bool
is_prefix b = nat_le 0xFB b && nat_le b 0xFE

-- A prefix has a number below 2^32, and no other byte has one.
abbrev pub IsOpcode : Op → Type 0
IsOpcode (Byte b) = is_prefix b ≡ false
IsOpcode (Prefixed prefix number) = (is_prefix prefix ≡ true) × (number < 2 ^ 32)

-- The bytes after the first byte of an opcode: a number after a prefix, nothing after any other
-- byte.
abbrev pub op_after : ℕ → Format Op
op_after b = when (is_prefix b) (mapped (Prefixed b) u32) (fixed [] (Byte b))

-- An opcode: a byte, or a prefix and a number. Core specification, Binary Format, Instructions.
abbrev pub opcode : Format Op
opcode = tagged byte op_after

-- Whether two opcodes are the same.
abbrev pub same_op : Op → Op → Bool
same_op (Byte a) (Byte b) = a == b
same_op (Byte a) (Prefixed p n) = false
same_op (Prefixed p n) (Byte b) = false
same_op (Prefixed p n) (Prefixed q m) = (p == q) && (n == m)

-- An opcode table: opcodes with their shapes.
abbrev pub Table : Type 0
Table = List (Op × Shape)

-- The shape of an opcode: that of its first row in the table.
abbrev pub shape_of : Table → Op → Option Shape
shape_of [] op = None
shape_of (row ∷ rows) op = cond (same_op row.0 op) (Some row.1) (shape_of rows op)

-- The immediates after an opcode of this shape. Nothing decodes after an opcode that is not in the
-- table.
abbrev pub arguments_after : Option Shape → Format (List Argument)
arguments_after None = impossible
arguments_after (Some shape) = arguments (parts_of shape)

-- The instruction of an opcode and immediates.
abbrev pub plain_of : Op × List Argument → Plain
plain_of p = record { op = p.0; arguments = p.1 }

-- An instruction in normal form: an opcode, and the immediates that its shape in the table has.
abbrev pub instruction : Table → Format Plain
instruction table = mapped plain_of (Then opcode (λ op. arguments_after (shape_of table op)))

-- ---- well-formed instructions

-- The instruction is well-formed: its opcode is in the table, and it has a well-formed immediate
-- for each of its shape.
pub record IsWellFormed (table : Table) (i : Plain) : Type 0 where
  pub shape : Shape
  pub opcode : IsOpcode i.op
  pub row : shape_of table i.op ≡ Some shape
  pub parts : map part_of i.arguments ≡ parts_of shape
  pub arguments : AreWellFormed i.arguments

-- The encoding of an instruction: its opcode, then its immediates.
abbrev pub plain_encoding : Plain → List ℕ
plain_encoding i = op_encoding i.op ++ arguments_encoding i.arguments
