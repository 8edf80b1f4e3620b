-- This file defines the opcode and immediates of every instruction, and the encoding of
-- instructions. Core specification, Binary Format, Instructions.
use Rattle.std.specs.Prelude.{◌≡◌, ◌↔◌, ℕ, ◌+◌, ◌*◌, List, [], ◌∷◌, Bool, true, false}
use Rattle.wasm_base.specs.Words.{DecodesUniquely, items_of}
use Rattle.wasm_base.specs.declared.types.RefType.{RefType}
use Rattle.wasm_insn.specs.declared.instruction.Instruction.{Instruction}
-- begin: written by tools/instructions
use Rattle.wasm_insn.specs.declared.instruction.Instruction.TheVariants as cases
-- end: written by tools/instructions
use Rattle.wasm_insn.specs.declared.op.Op.TheVariants.{Byte, Prefixed}
use Rattle.wasm_insn.specs.Arguments.{arguments_encodable, unsigned, signed32, signed64, float32, float64, memory, block, heap, labels, catches, types, handles, flag}
use Rattle.wasm_insn.specs.Plain.{Plain, plain_encoding, normal, instruction, AreWellFormed, HaveSmallAlignments}
use Rattle.wasm_insn.specs.Table.{table}
use Rattle.wasm_insn.specs.Numeric.{numeric_number}
use Rattle.wasm_insn.specs.Aggregate.{aggregate_number}
use Rattle.wasm_insn.specs.PrefixedNumeric.{prefixed_numeric_number}
use Rattle.wasm_insn.specs.Vector.{vector_number}
use Rattle.wasm_insn.specs.VectorImmediate.{vector_immediate_row}
use Rattle.wasm_insn.specs.Atomic.{atomic_row}

-- 1 if the flag is set, and 0 otherwise.
abbrev pub bit_of : Bool → ℕ
bit_of true = 1
bit_of false = 0

-- The flags of a cast: bit 0 is set if the first type is nullable, and bit 1 if the second is.
abbrev pub cast_flag_of : RefType → RefType → ℕ
cast_flag_of from to = bit_of from.nullable + 2 * bit_of to.nullable

-- The opcode and the immediates of an instruction.
abbrev pub row_of : {A : Type 0} → Instruction A → Plain
-- begin: written by tools/instructions
row_of cases.Unreachable = record { op = Byte 0x00; arguments = [] }
row_of cases.Nop = record { op = Byte 0x01; arguments = [] }
row_of (cases.Block a) = record { op = Byte 0x02; arguments = block a ∷ [] }
row_of (cases.Loop a) = record { op = Byte 0x03; arguments = block a ∷ [] }
row_of (cases.If a) = record { op = Byte 0x04; arguments = block a ∷ [] }
row_of cases.Else = record { op = Byte 0x05; arguments = [] }
row_of (cases.Try a) = record { op = Byte 0x06; arguments = block a ∷ [] }
row_of (cases.Catch a) = record { op = Byte 0x07; arguments = unsigned a ∷ [] }
row_of (cases.Throw a) = record { op = Byte 0x08; arguments = unsigned a ∷ [] }
row_of (cases.Rethrow a) = record { op = Byte 0x09; arguments = unsigned a ∷ [] }
row_of cases.ThrowRef = record { op = Byte 0x0A; arguments = [] }
row_of cases.End = record { op = Byte 0x0B; arguments = [] }
row_of (cases.Br a) = record { op = Byte 0x0C; arguments = unsigned a ∷ [] }
row_of (cases.BrIf a) = record { op = Byte 0x0D; arguments = unsigned a ∷ [] }
row_of (cases.BrTable a b) = record { op = Byte 0x0E; arguments = labels (items_of a) ∷ unsigned b ∷ [] }
row_of cases.Return = record { op = Byte 0x0F; arguments = [] }
row_of (cases.Call a) = record { op = Byte 0x10; arguments = unsigned a ∷ [] }
row_of (cases.CallIndirect a b) = record { op = Byte 0x11; arguments = unsigned a ∷ unsigned b ∷ [] }
row_of (cases.ReturnCall a) = record { op = Byte 0x12; arguments = unsigned a ∷ [] }
row_of (cases.ReturnCallIndirect a b) = record { op = Byte 0x13; arguments = unsigned a ∷ unsigned b ∷ [] }
row_of (cases.CallRef a) = record { op = Byte 0x14; arguments = unsigned a ∷ [] }
row_of (cases.ReturnCallRef a) = record { op = Byte 0x15; arguments = unsigned a ∷ [] }
row_of (cases.Delegate a) = record { op = Byte 0x18; arguments = unsigned a ∷ [] }
row_of cases.CatchAll = record { op = Byte 0x19; arguments = [] }
row_of cases.Drop = record { op = Byte 0x1A; arguments = [] }
row_of cases.Select = record { op = Byte 0x1B; arguments = [] }
row_of (cases.TypedSelect a) = record { op = Byte 0x1C; arguments = types (a ∷ []) ∷ [] }
row_of (cases.TypedSelectMulti a) = record { op = Byte 0x1C; arguments = types (items_of a) ∷ [] }
row_of (cases.TryTable a b) = record { op = Byte 0x1F; arguments = block a ∷ catches (items_of b) ∷ [] }
row_of (cases.LocalGet a) = record { op = Byte 0x20; arguments = unsigned a ∷ [] }
row_of (cases.LocalSet a) = record { op = Byte 0x21; arguments = unsigned a ∷ [] }
row_of (cases.LocalTee a) = record { op = Byte 0x22; arguments = unsigned a ∷ [] }
row_of (cases.GlobalGet a) = record { op = Byte 0x23; arguments = unsigned a ∷ [] }
row_of (cases.GlobalSet a) = record { op = Byte 0x24; arguments = unsigned a ∷ [] }
row_of (cases.TableGet a) = record { op = Byte 0x25; arguments = unsigned a ∷ [] }
row_of (cases.TableSet a) = record { op = Byte 0x26; arguments = unsigned a ∷ [] }
row_of (cases.I32Load a) = record { op = Byte 0x28; arguments = memory a ∷ [] }
row_of (cases.I64Load a) = record { op = Byte 0x29; arguments = memory a ∷ [] }
row_of (cases.F32Load a) = record { op = Byte 0x2A; arguments = memory a ∷ [] }
row_of (cases.F64Load a) = record { op = Byte 0x2B; arguments = memory a ∷ [] }
row_of (cases.I32Load8S a) = record { op = Byte 0x2C; arguments = memory a ∷ [] }
row_of (cases.I32Load8U a) = record { op = Byte 0x2D; arguments = memory a ∷ [] }
row_of (cases.I32Load16S a) = record { op = Byte 0x2E; arguments = memory a ∷ [] }
row_of (cases.I32Load16U a) = record { op = Byte 0x2F; arguments = memory a ∷ [] }
row_of (cases.I64Load8S a) = record { op = Byte 0x30; arguments = memory a ∷ [] }
row_of (cases.I64Load8U a) = record { op = Byte 0x31; arguments = memory a ∷ [] }
row_of (cases.I64Load16S a) = record { op = Byte 0x32; arguments = memory a ∷ [] }
row_of (cases.I64Load16U a) = record { op = Byte 0x33; arguments = memory a ∷ [] }
row_of (cases.I64Load32S a) = record { op = Byte 0x34; arguments = memory a ∷ [] }
row_of (cases.I64Load32U a) = record { op = Byte 0x35; arguments = memory a ∷ [] }
row_of (cases.I32Store a) = record { op = Byte 0x36; arguments = memory a ∷ [] }
row_of (cases.I64Store a) = record { op = Byte 0x37; arguments = memory a ∷ [] }
row_of (cases.F32Store a) = record { op = Byte 0x38; arguments = memory a ∷ [] }
row_of (cases.F64Store a) = record { op = Byte 0x39; arguments = memory a ∷ [] }
row_of (cases.I32Store8 a) = record { op = Byte 0x3A; arguments = memory a ∷ [] }
row_of (cases.I32Store16 a) = record { op = Byte 0x3B; arguments = memory a ∷ [] }
row_of (cases.I64Store8 a) = record { op = Byte 0x3C; arguments = memory a ∷ [] }
row_of (cases.I64Store16 a) = record { op = Byte 0x3D; arguments = memory a ∷ [] }
row_of (cases.I64Store32 a) = record { op = Byte 0x3E; arguments = memory a ∷ [] }
row_of (cases.MemorySize a) = record { op = Byte 0x3F; arguments = unsigned a ∷ [] }
row_of (cases.MemoryGrow a) = record { op = Byte 0x40; arguments = unsigned a ∷ [] }
row_of (cases.I32Const a) = record { op = Byte 0x41; arguments = signed32 a ∷ [] }
row_of (cases.I64Const a) = record { op = Byte 0x42; arguments = signed64 a ∷ [] }
row_of (cases.F32Const a) = record { op = Byte 0x43; arguments = float32 a ∷ [] }
row_of (cases.F64Const a) = record { op = Byte 0x44; arguments = float64 a ∷ [] }
row_of (cases.RefNull a) = record { op = Byte 0xD0; arguments = heap a ∷ [] }
row_of cases.RefIsNull = record { op = Byte 0xD1; arguments = [] }
row_of (cases.RefFunc a) = record { op = Byte 0xD2; arguments = unsigned a ∷ [] }
row_of cases.RefEq = record { op = Byte 0xD3; arguments = [] }
row_of cases.RefAsNonNull = record { op = Byte 0xD4; arguments = [] }
row_of (cases.BrOnNull a) = record { op = Byte 0xD5; arguments = unsigned a ∷ [] }
row_of (cases.BrOnNonNull a) = record { op = Byte 0xD6; arguments = unsigned a ∷ [] }
row_of (cases.ContNew a) = record { op = Byte 0xE0; arguments = unsigned a ∷ [] }
row_of (cases.ContBind a b) = record { op = Byte 0xE1; arguments = unsigned a ∷ unsigned b ∷ [] }
row_of (cases.Suspend a) = record { op = Byte 0xE2; arguments = unsigned a ∷ [] }
row_of (cases.Resume a b) = record { op = Byte 0xE3; arguments = unsigned a ∷ handles (items_of b) ∷ [] }
row_of (cases.ResumeThrow a b c) = record { op = Byte 0xE4; arguments = unsigned a ∷ unsigned b ∷ handles (items_of c) ∷ [] }
row_of (cases.ResumeThrowRef a b) = record { op = Byte 0xE5; arguments = unsigned a ∷ handles (items_of b) ∷ [] }
row_of (cases.Switch a b) = record { op = Byte 0xE6; arguments = unsigned a ∷ unsigned b ∷ [] }
row_of (cases.StructNew a) = record { op = Prefixed 0xFB 0; arguments = unsigned a ∷ [] }
row_of (cases.StructNewDefault a) = record { op = Prefixed 0xFB 1; arguments = unsigned a ∷ [] }
row_of (cases.StructGet a b) = record { op = Prefixed 0xFB 2; arguments = unsigned a ∷ unsigned b ∷ [] }
row_of (cases.StructGetS a b) = record { op = Prefixed 0xFB 3; arguments = unsigned a ∷ unsigned b ∷ [] }
row_of (cases.StructGetU a b) = record { op = Prefixed 0xFB 4; arguments = unsigned a ∷ unsigned b ∷ [] }
row_of (cases.StructSet a b) = record { op = Prefixed 0xFB 5; arguments = unsigned a ∷ unsigned b ∷ [] }
row_of (cases.ArrayNew a) = record { op = Prefixed 0xFB 6; arguments = unsigned a ∷ [] }
row_of (cases.ArrayNewDefault a) = record { op = Prefixed 0xFB 7; arguments = unsigned a ∷ [] }
row_of (cases.ArrayNewFixed a b) = record { op = Prefixed 0xFB 8; arguments = unsigned a ∷ unsigned b ∷ [] }
row_of (cases.ArrayNewData a b) = record { op = Prefixed 0xFB 9; arguments = unsigned a ∷ unsigned b ∷ [] }
row_of (cases.ArrayNewElem a b) = record { op = Prefixed 0xFB 10; arguments = unsigned a ∷ unsigned b ∷ [] }
row_of (cases.ArrayGet a) = record { op = Prefixed 0xFB 11; arguments = unsigned a ∷ [] }
row_of (cases.ArrayGetS a) = record { op = Prefixed 0xFB 12; arguments = unsigned a ∷ [] }
row_of (cases.ArrayGetU a) = record { op = Prefixed 0xFB 13; arguments = unsigned a ∷ [] }
row_of (cases.ArraySet a) = record { op = Prefixed 0xFB 14; arguments = unsigned a ∷ [] }
row_of (cases.ArrayFill a) = record { op = Prefixed 0xFB 16; arguments = unsigned a ∷ [] }
row_of (cases.ArrayCopy a b) = record { op = Prefixed 0xFB 17; arguments = unsigned a ∷ unsigned b ∷ [] }
row_of (cases.ArrayInitData a b) = record { op = Prefixed 0xFB 18; arguments = unsigned a ∷ unsigned b ∷ [] }
row_of (cases.ArrayInitElem a b) = record { op = Prefixed 0xFB 19; arguments = unsigned a ∷ unsigned b ∷ [] }
row_of (cases.RefTestNonNull a) = record { op = Prefixed 0xFB 20; arguments = heap a ∷ [] }
row_of (cases.RefTestNullable a) = record { op = Prefixed 0xFB 21; arguments = heap a ∷ [] }
row_of (cases.RefCastNonNull a) = record { op = Prefixed 0xFB 22; arguments = heap a ∷ [] }
row_of (cases.RefCastNullable a) = record { op = Prefixed 0xFB 23; arguments = heap a ∷ [] }
row_of (cases.BrOnCast a b c) = record { op = Prefixed 0xFB 24; arguments = flag (cast_flag_of b c) ∷ unsigned a ∷ heap b.heap_type ∷ heap c.heap_type ∷ [] }
row_of (cases.BrOnCastFail a b c) = record { op = Prefixed 0xFB 25; arguments = flag (cast_flag_of b c) ∷ unsigned a ∷ heap b.heap_type ∷ heap c.heap_type ∷ [] }
row_of (cases.StructNewDesc a) = record { op = Prefixed 0xFB 32; arguments = unsigned a ∷ [] }
row_of (cases.StructNewDefaultDesc a) = record { op = Prefixed 0xFB 33; arguments = unsigned a ∷ [] }
row_of (cases.RefGetDesc a) = record { op = Prefixed 0xFB 34; arguments = unsigned a ∷ [] }
row_of (cases.RefCastDescEqNonNull a) = record { op = Prefixed 0xFB 35; arguments = heap a ∷ [] }
row_of (cases.RefCastDescEqNullable a) = record { op = Prefixed 0xFB 36; arguments = heap a ∷ [] }
row_of (cases.BrOnCastDescEq a b c) = record { op = Prefixed 0xFB 37; arguments = flag (cast_flag_of b c) ∷ unsigned a ∷ heap b.heap_type ∷ heap c.heap_type ∷ [] }
row_of (cases.BrOnCastDescEqFail a b c) = record { op = Prefixed 0xFB 38; arguments = flag (cast_flag_of b c) ∷ unsigned a ∷ heap b.heap_type ∷ heap c.heap_type ∷ [] }
row_of (cases.MemoryInit a b) = record { op = Prefixed 0xFC 8; arguments = unsigned a ∷ unsigned b ∷ [] }
row_of (cases.DataDrop a) = record { op = Prefixed 0xFC 9; arguments = unsigned a ∷ [] }
row_of (cases.MemoryCopy a b) = record { op = Prefixed 0xFC 10; arguments = unsigned a ∷ unsigned b ∷ [] }
row_of (cases.MemoryFill a) = record { op = Prefixed 0xFC 11; arguments = unsigned a ∷ [] }
row_of (cases.TableInit a b) = record { op = Prefixed 0xFC 12; arguments = unsigned a ∷ unsigned b ∷ [] }
row_of (cases.ElemDrop a) = record { op = Prefixed 0xFC 13; arguments = unsigned a ∷ [] }
row_of (cases.TableCopy a b) = record { op = Prefixed 0xFC 14; arguments = unsigned a ∷ unsigned b ∷ [] }
row_of (cases.TableGrow a) = record { op = Prefixed 0xFC 15; arguments = unsigned a ∷ [] }
row_of (cases.TableSize a) = record { op = Prefixed 0xFC 16; arguments = unsigned a ∷ [] }
row_of (cases.TableFill a) = record { op = Prefixed 0xFC 17; arguments = unsigned a ∷ [] }
row_of (cases.MemoryDiscard a) = record { op = Prefixed 0xFC 18; arguments = unsigned a ∷ [] }
row_of (cases.Numeric i) = record { op = Byte (numeric_number i); arguments = [] }
row_of (cases.Aggregate i) = record { op = Prefixed 0xFB (aggregate_number i); arguments = [] }
row_of (cases.PrefixedNumeric i) = record { op = Prefixed 0xFC (prefixed_numeric_number i); arguments = [] }
row_of (cases.Vector i) = record { op = Prefixed 0xFD (vector_number i); arguments = [] }
row_of (cases.VectorImmediate i) = vector_immediate_row i
row_of (cases.Atomic i) = atomic_row i

-- end: written by tools/instructions

-- The encoding of an instruction: its opcode, then its immediates.
abbrev pub instruction_encoding : {A : Type 0} → Instruction A → List ℕ
instruction_encoding i = plain_encoding (row_of i)

-- Each list in the instruction has at most 2^32 - 1 members.
abbrev pub IsEncodableInstruction : {A : Type 0} → Instruction A → Type 0
IsEncodableInstruction i = arguments_encodable (row_of i).arguments

-- The instruction is well-formed: alignments are below 16, lists fit, and numbers are in range. The
-- types of its fields ensure the ranges.
abbrev pub IsWellFormedInstruction : {A : Type 0} → Instruction A → Type 0
IsWellFormedInstruction i = AreWellFormed (row_of i).arguments

-- The alignments of the instruction's memory arguments are below 16.
abbrev pub HasSmallAlignments : {A : Type 0} → Instruction A → Type 0
HasSmallAlignments i = HaveSmallAlignments (row_of i).arguments

-- If its alignments are below 16 and its lists fit, the instruction is well-formed.
pub record IsWellFormedWhereAligned {A : Type 0} (i : Instruction A) : Type 0 where
  pub plain : HasSmallAlignments i → IsEncodableInstruction i → IsWellFormedInstruction i

-- The encoding of a well-formed instruction decodes to its normal form alone.
pub record DecodesInstruction {A : Type 0} (i : Instruction A) : Type 0 where
  pub unique : IsWellFormedInstruction i → DecodesUniquely (instruction table) (instruction_encoding i) (normal (row_of i))

-- Two well-formed instructions have the same encoding exactly if they have the same normal form.
pub record HaveOneEncoding {A : Type 0} (i j : Instruction A) : Type 0 where
  pub exactly : IsWellFormedInstruction i → IsWellFormedInstruction j → (instruction_encoding i ≡ instruction_encoding j) ↔ (normal (row_of i) ≡ normal (row_of j))
