-- This file defines a value of each case of an instruction, in the order of the opcode table.
use Rattle.std.specs.Prelude.{◌≡◌, ℕ, ℤ, List, [], ◌∷◌, map}
use Rattle.std.specs.List.{Contains}
use Rattle.wasm_base.specs.declared.cow.CowSlice.{CowSlice}
use Rattle.wasm_base.specs.declared.types.HeapType.{HeapType}
use Rattle.wasm_base.specs.declared.types.RefType.{RefType}
use Rattle.wasm_base.specs.declared.types.ValType.{ValType}
use Rattle.wasm_immediates.specs.declared.block_type.BlockType.{BlockType}
use Rattle.wasm_immediates.specs.declared.control.Catch.{Catch}
use Rattle.wasm_immediates.specs.declared.control.Handle.{Handle}
use Rattle.wasm_immediates.specs.declared.floats.Ieee32.{Ieee32}
use Rattle.wasm_immediates.specs.declared.floats.Ieee64.{Ieee64}
use Rattle.wasm_immediates.specs.declared.memory.MemArg.{MemArg}
use Rattle.wasm_immediates.specs.declared.memory.Ordering.{Ordering}
use Rattle.wasm_insn.specs.declared.instruction.Instruction.{Instruction}
use Rattle.wasm_insn.specs.Arguments.{part_of}
use Rattle.wasm_insn.specs.Instructions.{row_of}
use Rattle.wasm_insn.specs.Parts.{parts_of}
use Rattle.wasm_insn.specs.Plain.{Table}
use Rattle.wasm_insn.specs.declared.instruction.Instruction.TheVariants as cases
use Rattle.wasm_insn.specs.declared.numeric.Numeric.TheVariants as numeric
use Rattle.wasm_insn.specs.declared.aggregate.Aggregate.TheVariants as aggregate
use Rattle.wasm_insn.specs.declared.prefixed_numeric.PrefixedNumeric.TheVariants as prefixed_numeric
use Rattle.wasm_insn.specs.declared.vector.Vector.TheVariants as vector
use Rattle.wasm_insn.specs.declared.vector_immediate.VectorImmediate.TheVariants as vector_immediate
use Rattle.wasm_insn.specs.declared.atomic.Atomic.TheVariants as atomic

-- The fields of the cases in `all_cases`.
pub record Given (A : Type 0) : Type 0 where
  pub index : ℕ
  pub second_index : ℕ
  pub lane : ℕ
  pub lanes : List ℕ
  pub signed : ℤ
  pub float32 : Ieee32
  pub float64 : Ieee64
  pub memory : MemArg
  pub ordering : Ordering
  pub block : BlockType
  pub heap : HeapType
  pub from : RefType
  pub to : RefType
  pub value : ValType
  pub labels : CowSlice ℕ A
  pub catches : CowSlice Catch A
  pub types : CowSlice ValType A
  pub handles : CowSlice Handle A

-- Each case of the enums once, with these fields.
abbrev pub all_cases : {A : Type 0} → Given A → List (Instruction A)
all_cases given =
    -- begin: written by tools/instructions
    cases.Unreachable ∷
    cases.Nop ∷
    cases.Block given.block ∷
    cases.Loop given.block ∷
    cases.If given.block ∷
    cases.Else ∷
    cases.Try given.block ∷
    cases.Catch given.index ∷
    cases.Throw given.index ∷
    cases.Rethrow given.index ∷
    cases.ThrowRef ∷
    cases.End ∷
    cases.Br given.index ∷
    cases.BrIf given.index ∷
    cases.BrTable given.labels given.index ∷
    cases.Return ∷
    cases.Call given.index ∷
    cases.CallIndirect given.index given.second_index ∷
    cases.ReturnCall given.index ∷
    cases.ReturnCallIndirect given.index given.second_index ∷
    cases.CallRef given.index ∷
    cases.ReturnCallRef given.index ∷
    cases.Delegate given.index ∷
    cases.CatchAll ∷
    cases.Drop ∷
    cases.Select ∷
    cases.TypedSelect given.value ∷
    cases.TypedSelectMulti given.types ∷
    cases.TryTable given.block given.catches ∷
    cases.LocalGet given.index ∷
    cases.LocalSet given.index ∷
    cases.LocalTee given.index ∷
    cases.GlobalGet given.index ∷
    cases.GlobalSet given.index ∷
    cases.TableGet given.index ∷
    cases.TableSet given.index ∷
    cases.I32Load given.memory ∷
    cases.I64Load given.memory ∷
    cases.F32Load given.memory ∷
    cases.F64Load given.memory ∷
    cases.I32Load8S given.memory ∷
    cases.I32Load8U given.memory ∷
    cases.I32Load16S given.memory ∷
    cases.I32Load16U given.memory ∷
    cases.I64Load8S given.memory ∷
    cases.I64Load8U given.memory ∷
    cases.I64Load16S given.memory ∷
    cases.I64Load16U given.memory ∷
    cases.I64Load32S given.memory ∷
    cases.I64Load32U given.memory ∷
    cases.I32Store given.memory ∷
    cases.I64Store given.memory ∷
    cases.F32Store given.memory ∷
    cases.F64Store given.memory ∷
    cases.I32Store8 given.memory ∷
    cases.I32Store16 given.memory ∷
    cases.I64Store8 given.memory ∷
    cases.I64Store16 given.memory ∷
    cases.I64Store32 given.memory ∷
    cases.MemorySize given.index ∷
    cases.MemoryGrow given.index ∷
    cases.I32Const given.signed ∷
    cases.I64Const given.signed ∷
    cases.F32Const given.float32 ∷
    cases.F64Const given.float64 ∷
    cases.Numeric numeric.I32Eqz ∷
    cases.Numeric numeric.I32Eq ∷
    cases.Numeric numeric.I32Ne ∷
    cases.Numeric numeric.I32LtS ∷
    cases.Numeric numeric.I32LtU ∷
    cases.Numeric numeric.I32GtS ∷
    cases.Numeric numeric.I32GtU ∷
    cases.Numeric numeric.I32LeS ∷
    cases.Numeric numeric.I32LeU ∷
    cases.Numeric numeric.I32GeS ∷
    cases.Numeric numeric.I32GeU ∷
    cases.Numeric numeric.I64Eqz ∷
    cases.Numeric numeric.I64Eq ∷
    cases.Numeric numeric.I64Ne ∷
    cases.Numeric numeric.I64LtS ∷
    cases.Numeric numeric.I64LtU ∷
    cases.Numeric numeric.I64GtS ∷
    cases.Numeric numeric.I64GtU ∷
    cases.Numeric numeric.I64LeS ∷
    cases.Numeric numeric.I64LeU ∷
    cases.Numeric numeric.I64GeS ∷
    cases.Numeric numeric.I64GeU ∷
    cases.Numeric numeric.F32Eq ∷
    cases.Numeric numeric.F32Ne ∷
    cases.Numeric numeric.F32Lt ∷
    cases.Numeric numeric.F32Gt ∷
    cases.Numeric numeric.F32Le ∷
    cases.Numeric numeric.F32Ge ∷
    cases.Numeric numeric.F64Eq ∷
    cases.Numeric numeric.F64Ne ∷
    cases.Numeric numeric.F64Lt ∷
    cases.Numeric numeric.F64Gt ∷
    cases.Numeric numeric.F64Le ∷
    cases.Numeric numeric.F64Ge ∷
    cases.Numeric numeric.I32Clz ∷
    cases.Numeric numeric.I32Ctz ∷
    cases.Numeric numeric.I32Popcnt ∷
    cases.Numeric numeric.I32Add ∷
    cases.Numeric numeric.I32Sub ∷
    cases.Numeric numeric.I32Mul ∷
    cases.Numeric numeric.I32DivS ∷
    cases.Numeric numeric.I32DivU ∷
    cases.Numeric numeric.I32RemS ∷
    cases.Numeric numeric.I32RemU ∷
    cases.Numeric numeric.I32And ∷
    cases.Numeric numeric.I32Or ∷
    cases.Numeric numeric.I32Xor ∷
    cases.Numeric numeric.I32Shl ∷
    cases.Numeric numeric.I32ShrS ∷
    cases.Numeric numeric.I32ShrU ∷
    cases.Numeric numeric.I32Rotl ∷
    cases.Numeric numeric.I32Rotr ∷
    cases.Numeric numeric.I64Clz ∷
    cases.Numeric numeric.I64Ctz ∷
    cases.Numeric numeric.I64Popcnt ∷
    cases.Numeric numeric.I64Add ∷
    cases.Numeric numeric.I64Sub ∷
    cases.Numeric numeric.I64Mul ∷
    cases.Numeric numeric.I64DivS ∷
    cases.Numeric numeric.I64DivU ∷
    cases.Numeric numeric.I64RemS ∷
    cases.Numeric numeric.I64RemU ∷
    cases.Numeric numeric.I64And ∷
    cases.Numeric numeric.I64Or ∷
    cases.Numeric numeric.I64Xor ∷
    cases.Numeric numeric.I64Shl ∷
    cases.Numeric numeric.I64ShrS ∷
    cases.Numeric numeric.I64ShrU ∷
    cases.Numeric numeric.I64Rotl ∷
    cases.Numeric numeric.I64Rotr ∷
    cases.Numeric numeric.F32Abs ∷
    cases.Numeric numeric.F32Neg ∷
    cases.Numeric numeric.F32Ceil ∷
    cases.Numeric numeric.F32Floor ∷
    cases.Numeric numeric.F32Trunc ∷
    cases.Numeric numeric.F32Nearest ∷
    cases.Numeric numeric.F32Sqrt ∷
    cases.Numeric numeric.F32Add ∷
    cases.Numeric numeric.F32Sub ∷
    cases.Numeric numeric.F32Mul ∷
    cases.Numeric numeric.F32Div ∷
    cases.Numeric numeric.F32Min ∷
    cases.Numeric numeric.F32Max ∷
    cases.Numeric numeric.F32Copysign ∷
    cases.Numeric numeric.F64Abs ∷
    cases.Numeric numeric.F64Neg ∷
    cases.Numeric numeric.F64Ceil ∷
    cases.Numeric numeric.F64Floor ∷
    cases.Numeric numeric.F64Trunc ∷
    cases.Numeric numeric.F64Nearest ∷
    cases.Numeric numeric.F64Sqrt ∷
    cases.Numeric numeric.F64Add ∷
    cases.Numeric numeric.F64Sub ∷
    cases.Numeric numeric.F64Mul ∷
    cases.Numeric numeric.F64Div ∷
    cases.Numeric numeric.F64Min ∷
    cases.Numeric numeric.F64Max ∷
    cases.Numeric numeric.F64Copysign ∷
    cases.Numeric numeric.I32WrapI64 ∷
    cases.Numeric numeric.I32TruncF32S ∷
    cases.Numeric numeric.I32TruncF32U ∷
    cases.Numeric numeric.I32TruncF64S ∷
    cases.Numeric numeric.I32TruncF64U ∷
    cases.Numeric numeric.I64ExtendI32S ∷
    cases.Numeric numeric.I64ExtendI32U ∷
    cases.Numeric numeric.I64TruncF32S ∷
    cases.Numeric numeric.I64TruncF32U ∷
    cases.Numeric numeric.I64TruncF64S ∷
    cases.Numeric numeric.I64TruncF64U ∷
    cases.Numeric numeric.F32ConvertI32S ∷
    cases.Numeric numeric.F32ConvertI32U ∷
    cases.Numeric numeric.F32ConvertI64S ∷
    cases.Numeric numeric.F32ConvertI64U ∷
    cases.Numeric numeric.F32DemoteF64 ∷
    cases.Numeric numeric.F64ConvertI32S ∷
    cases.Numeric numeric.F64ConvertI32U ∷
    cases.Numeric numeric.F64ConvertI64S ∷
    cases.Numeric numeric.F64ConvertI64U ∷
    cases.Numeric numeric.F64PromoteF32 ∷
    cases.Numeric numeric.I32ReinterpretF32 ∷
    cases.Numeric numeric.I64ReinterpretF64 ∷
    cases.Numeric numeric.F32ReinterpretI32 ∷
    cases.Numeric numeric.F64ReinterpretI64 ∷
    cases.Numeric numeric.I32Extend8S ∷
    cases.Numeric numeric.I32Extend16S ∷
    cases.Numeric numeric.I64Extend8S ∷
    cases.Numeric numeric.I64Extend16S ∷
    cases.Numeric numeric.I64Extend32S ∷
    cases.RefNull given.heap ∷
    cases.RefIsNull ∷
    cases.RefFunc given.index ∷
    cases.RefEq ∷
    cases.RefAsNonNull ∷
    cases.BrOnNull given.index ∷
    cases.BrOnNonNull given.index ∷
    cases.ContNew given.index ∷
    cases.ContBind given.index given.second_index ∷
    cases.Suspend given.index ∷
    cases.Resume given.index given.handles ∷
    cases.ResumeThrow given.index given.second_index given.handles ∷
    cases.ResumeThrowRef given.index given.handles ∷
    cases.Switch given.index given.second_index ∷
    cases.StructNew given.index ∷
    cases.StructNewDefault given.index ∷
    cases.StructGet given.index given.second_index ∷
    cases.StructGetS given.index given.second_index ∷
    cases.StructGetU given.index given.second_index ∷
    cases.StructSet given.index given.second_index ∷
    cases.ArrayNew given.index ∷
    cases.ArrayNewDefault given.index ∷
    cases.ArrayNewFixed given.index given.second_index ∷
    cases.ArrayNewData given.index given.second_index ∷
    cases.ArrayNewElem given.index given.second_index ∷
    cases.ArrayGet given.index ∷
    cases.ArrayGetS given.index ∷
    cases.ArrayGetU given.index ∷
    cases.ArraySet given.index ∷
    cases.Aggregate aggregate.ArrayLen ∷
    cases.ArrayFill given.index ∷
    cases.ArrayCopy given.index given.second_index ∷
    cases.ArrayInitData given.index given.second_index ∷
    cases.ArrayInitElem given.index given.second_index ∷
    cases.RefTestNonNull given.heap ∷
    cases.RefTestNullable given.heap ∷
    cases.RefCastNonNull given.heap ∷
    cases.RefCastNullable given.heap ∷
    cases.BrOnCast given.index given.from given.to ∷
    cases.BrOnCastFail given.index given.from given.to ∷
    cases.Aggregate aggregate.AnyConvertExtern ∷
    cases.Aggregate aggregate.ExternConvertAny ∷
    cases.Aggregate aggregate.RefI31 ∷
    cases.Aggregate aggregate.I31GetS ∷
    cases.Aggregate aggregate.I31GetU ∷
    cases.StructNewDesc given.index ∷
    cases.StructNewDefaultDesc given.index ∷
    cases.RefGetDesc given.index ∷
    cases.RefCastDescEqNonNull given.heap ∷
    cases.RefCastDescEqNullable given.heap ∷
    cases.BrOnCastDescEq given.index given.from given.to ∷
    cases.BrOnCastDescEqFail given.index given.from given.to ∷
    cases.PrefixedNumeric prefixed_numeric.I32TruncSatF32S ∷
    cases.PrefixedNumeric prefixed_numeric.I32TruncSatF32U ∷
    cases.PrefixedNumeric prefixed_numeric.I32TruncSatF64S ∷
    cases.PrefixedNumeric prefixed_numeric.I32TruncSatF64U ∷
    cases.PrefixedNumeric prefixed_numeric.I64TruncSatF32S ∷
    cases.PrefixedNumeric prefixed_numeric.I64TruncSatF32U ∷
    cases.PrefixedNumeric prefixed_numeric.I64TruncSatF64S ∷
    cases.PrefixedNumeric prefixed_numeric.I64TruncSatF64U ∷
    cases.MemoryInit given.index given.second_index ∷
    cases.DataDrop given.index ∷
    cases.MemoryCopy given.index given.second_index ∷
    cases.MemoryFill given.index ∷
    cases.TableInit given.index given.second_index ∷
    cases.ElemDrop given.index ∷
    cases.TableCopy given.index given.second_index ∷
    cases.TableGrow given.index ∷
    cases.TableSize given.index ∷
    cases.TableFill given.index ∷
    cases.MemoryDiscard given.index ∷
    cases.PrefixedNumeric prefixed_numeric.I64Add128 ∷
    cases.PrefixedNumeric prefixed_numeric.I64Sub128 ∷
    cases.PrefixedNumeric prefixed_numeric.I64MulWideS ∷
    cases.PrefixedNumeric prefixed_numeric.I64MulWideU ∷
    cases.VectorImmediate (vector_immediate.V128Load given.memory) ∷
    cases.VectorImmediate (vector_immediate.V128Load8x8S given.memory) ∷
    cases.VectorImmediate (vector_immediate.V128Load8x8U given.memory) ∷
    cases.VectorImmediate (vector_immediate.V128Load16x4S given.memory) ∷
    cases.VectorImmediate (vector_immediate.V128Load16x4U given.memory) ∷
    cases.VectorImmediate (vector_immediate.V128Load32x2S given.memory) ∷
    cases.VectorImmediate (vector_immediate.V128Load32x2U given.memory) ∷
    cases.VectorImmediate (vector_immediate.V128Load8Splat given.memory) ∷
    cases.VectorImmediate (vector_immediate.V128Load16Splat given.memory) ∷
    cases.VectorImmediate (vector_immediate.V128Load32Splat given.memory) ∷
    cases.VectorImmediate (vector_immediate.V128Load64Splat given.memory) ∷
    cases.VectorImmediate (vector_immediate.V128Store given.memory) ∷
    cases.VectorImmediate (vector_immediate.V128Const given.signed) ∷
    cases.VectorImmediate (vector_immediate.I8x16Shuffle given.lanes) ∷
    cases.Vector vector.I8x16Swizzle ∷
    cases.Vector vector.I8x16Splat ∷
    cases.Vector vector.I16x8Splat ∷
    cases.Vector vector.I32x4Splat ∷
    cases.Vector vector.I64x2Splat ∷
    cases.Vector vector.F32x4Splat ∷
    cases.Vector vector.F64x2Splat ∷
    cases.VectorImmediate (vector_immediate.I8x16ExtractLaneS given.lane) ∷
    cases.VectorImmediate (vector_immediate.I8x16ExtractLaneU given.lane) ∷
    cases.VectorImmediate (vector_immediate.I8x16ReplaceLane given.lane) ∷
    cases.VectorImmediate (vector_immediate.I16x8ExtractLaneS given.lane) ∷
    cases.VectorImmediate (vector_immediate.I16x8ExtractLaneU given.lane) ∷
    cases.VectorImmediate (vector_immediate.I16x8ReplaceLane given.lane) ∷
    cases.VectorImmediate (vector_immediate.I32x4ExtractLane given.lane) ∷
    cases.VectorImmediate (vector_immediate.I32x4ReplaceLane given.lane) ∷
    cases.VectorImmediate (vector_immediate.I64x2ExtractLane given.lane) ∷
    cases.VectorImmediate (vector_immediate.I64x2ReplaceLane given.lane) ∷
    cases.VectorImmediate (vector_immediate.F32x4ExtractLane given.lane) ∷
    cases.VectorImmediate (vector_immediate.F32x4ReplaceLane given.lane) ∷
    cases.VectorImmediate (vector_immediate.F64x2ExtractLane given.lane) ∷
    cases.VectorImmediate (vector_immediate.F64x2ReplaceLane given.lane) ∷
    cases.Vector vector.I8x16Eq ∷
    cases.Vector vector.I8x16Ne ∷
    cases.Vector vector.I8x16LtS ∷
    cases.Vector vector.I8x16LtU ∷
    cases.Vector vector.I8x16GtS ∷
    cases.Vector vector.I8x16GtU ∷
    cases.Vector vector.I8x16LeS ∷
    cases.Vector vector.I8x16LeU ∷
    cases.Vector vector.I8x16GeS ∷
    cases.Vector vector.I8x16GeU ∷
    cases.Vector vector.I16x8Eq ∷
    cases.Vector vector.I16x8Ne ∷
    cases.Vector vector.I16x8LtS ∷
    cases.Vector vector.I16x8LtU ∷
    cases.Vector vector.I16x8GtS ∷
    cases.Vector vector.I16x8GtU ∷
    cases.Vector vector.I16x8LeS ∷
    cases.Vector vector.I16x8LeU ∷
    cases.Vector vector.I16x8GeS ∷
    cases.Vector vector.I16x8GeU ∷
    cases.Vector vector.I32x4Eq ∷
    cases.Vector vector.I32x4Ne ∷
    cases.Vector vector.I32x4LtS ∷
    cases.Vector vector.I32x4LtU ∷
    cases.Vector vector.I32x4GtS ∷
    cases.Vector vector.I32x4GtU ∷
    cases.Vector vector.I32x4LeS ∷
    cases.Vector vector.I32x4LeU ∷
    cases.Vector vector.I32x4GeS ∷
    cases.Vector vector.I32x4GeU ∷
    cases.Vector vector.F32x4Eq ∷
    cases.Vector vector.F32x4Ne ∷
    cases.Vector vector.F32x4Lt ∷
    cases.Vector vector.F32x4Gt ∷
    cases.Vector vector.F32x4Le ∷
    cases.Vector vector.F32x4Ge ∷
    cases.Vector vector.F64x2Eq ∷
    cases.Vector vector.F64x2Ne ∷
    cases.Vector vector.F64x2Lt ∷
    cases.Vector vector.F64x2Gt ∷
    cases.Vector vector.F64x2Le ∷
    cases.Vector vector.F64x2Ge ∷
    cases.Vector vector.V128Not ∷
    cases.Vector vector.V128And ∷
    cases.Vector vector.V128AndNot ∷
    cases.Vector vector.V128Or ∷
    cases.Vector vector.V128Xor ∷
    cases.Vector vector.V128Bitselect ∷
    cases.Vector vector.V128AnyTrue ∷
    cases.VectorImmediate (vector_immediate.V128Load8Lane given.memory given.lane) ∷
    cases.VectorImmediate (vector_immediate.V128Load16Lane given.memory given.lane) ∷
    cases.VectorImmediate (vector_immediate.V128Load32Lane given.memory given.lane) ∷
    cases.VectorImmediate (vector_immediate.V128Load64Lane given.memory given.lane) ∷
    cases.VectorImmediate (vector_immediate.V128Store8Lane given.memory given.lane) ∷
    cases.VectorImmediate (vector_immediate.V128Store16Lane given.memory given.lane) ∷
    cases.VectorImmediate (vector_immediate.V128Store32Lane given.memory given.lane) ∷
    cases.VectorImmediate (vector_immediate.V128Store64Lane given.memory given.lane) ∷
    cases.VectorImmediate (vector_immediate.V128Load32Zero given.memory) ∷
    cases.VectorImmediate (vector_immediate.V128Load64Zero given.memory) ∷
    cases.Vector vector.F32x4DemoteF64x2Zero ∷
    cases.Vector vector.F64x2PromoteLowF32x4 ∷
    cases.Vector vector.I8x16Abs ∷
    cases.Vector vector.I8x16Neg ∷
    cases.Vector vector.I8x16Popcnt ∷
    cases.Vector vector.I8x16AllTrue ∷
    cases.Vector vector.I8x16Bitmask ∷
    cases.Vector vector.I8x16NarrowI16x8S ∷
    cases.Vector vector.I8x16NarrowI16x8U ∷
    cases.Vector vector.F32x4Ceil ∷
    cases.Vector vector.F32x4Floor ∷
    cases.Vector vector.F32x4Trunc ∷
    cases.Vector vector.F32x4Nearest ∷
    cases.Vector vector.I8x16Shl ∷
    cases.Vector vector.I8x16ShrS ∷
    cases.Vector vector.I8x16ShrU ∷
    cases.Vector vector.I8x16Add ∷
    cases.Vector vector.I8x16AddSatS ∷
    cases.Vector vector.I8x16AddSatU ∷
    cases.Vector vector.I8x16Sub ∷
    cases.Vector vector.I8x16SubSatS ∷
    cases.Vector vector.I8x16SubSatU ∷
    cases.Vector vector.F64x2Ceil ∷
    cases.Vector vector.F64x2Floor ∷
    cases.Vector vector.I8x16MinS ∷
    cases.Vector vector.I8x16MinU ∷
    cases.Vector vector.I8x16MaxS ∷
    cases.Vector vector.I8x16MaxU ∷
    cases.Vector vector.F64x2Trunc ∷
    cases.Vector vector.I8x16AvgrU ∷
    cases.Vector vector.I16x8ExtAddPairwiseI8x16S ∷
    cases.Vector vector.I16x8ExtAddPairwiseI8x16U ∷
    cases.Vector vector.I32x4ExtAddPairwiseI16x8S ∷
    cases.Vector vector.I32x4ExtAddPairwiseI16x8U ∷
    cases.Vector vector.I16x8Abs ∷
    cases.Vector vector.I16x8Neg ∷
    cases.Vector vector.I16x8Q15MulrSatS ∷
    cases.Vector vector.I16x8AllTrue ∷
    cases.Vector vector.I16x8Bitmask ∷
    cases.Vector vector.I16x8NarrowI32x4S ∷
    cases.Vector vector.I16x8NarrowI32x4U ∷
    cases.Vector vector.I16x8ExtendLowI8x16S ∷
    cases.Vector vector.I16x8ExtendHighI8x16S ∷
    cases.Vector vector.I16x8ExtendLowI8x16U ∷
    cases.Vector vector.I16x8ExtendHighI8x16U ∷
    cases.Vector vector.I16x8Shl ∷
    cases.Vector vector.I16x8ShrS ∷
    cases.Vector vector.I16x8ShrU ∷
    cases.Vector vector.I16x8Add ∷
    cases.Vector vector.I16x8AddSatS ∷
    cases.Vector vector.I16x8AddSatU ∷
    cases.Vector vector.I16x8Sub ∷
    cases.Vector vector.I16x8SubSatS ∷
    cases.Vector vector.I16x8SubSatU ∷
    cases.Vector vector.F64x2Nearest ∷
    cases.Vector vector.I16x8Mul ∷
    cases.Vector vector.I16x8MinS ∷
    cases.Vector vector.I16x8MinU ∷
    cases.Vector vector.I16x8MaxS ∷
    cases.Vector vector.I16x8MaxU ∷
    cases.Vector vector.I16x8AvgrU ∷
    cases.Vector vector.I16x8ExtMulLowI8x16S ∷
    cases.Vector vector.I16x8ExtMulHighI8x16S ∷
    cases.Vector vector.I16x8ExtMulLowI8x16U ∷
    cases.Vector vector.I16x8ExtMulHighI8x16U ∷
    cases.Vector vector.I32x4Abs ∷
    cases.Vector vector.I32x4Neg ∷
    cases.Vector vector.I32x4AllTrue ∷
    cases.Vector vector.I32x4Bitmask ∷
    cases.Vector vector.I32x4ExtendLowI16x8S ∷
    cases.Vector vector.I32x4ExtendHighI16x8S ∷
    cases.Vector vector.I32x4ExtendLowI16x8U ∷
    cases.Vector vector.I32x4ExtendHighI16x8U ∷
    cases.Vector vector.I32x4Shl ∷
    cases.Vector vector.I32x4ShrS ∷
    cases.Vector vector.I32x4ShrU ∷
    cases.Vector vector.I32x4Add ∷
    cases.Vector vector.I32x4Sub ∷
    cases.Vector vector.I32x4Mul ∷
    cases.Vector vector.I32x4MinS ∷
    cases.Vector vector.I32x4MinU ∷
    cases.Vector vector.I32x4MaxS ∷
    cases.Vector vector.I32x4MaxU ∷
    cases.Vector vector.I32x4DotI16x8S ∷
    cases.Vector vector.I32x4ExtMulLowI16x8S ∷
    cases.Vector vector.I32x4ExtMulHighI16x8S ∷
    cases.Vector vector.I32x4ExtMulLowI16x8U ∷
    cases.Vector vector.I32x4ExtMulHighI16x8U ∷
    cases.Vector vector.I64x2Abs ∷
    cases.Vector vector.I64x2Neg ∷
    cases.Vector vector.I64x2AllTrue ∷
    cases.Vector vector.I64x2Bitmask ∷
    cases.Vector vector.I64x2ExtendLowI32x4S ∷
    cases.Vector vector.I64x2ExtendHighI32x4S ∷
    cases.Vector vector.I64x2ExtendLowI32x4U ∷
    cases.Vector vector.I64x2ExtendHighI32x4U ∷
    cases.Vector vector.I64x2Shl ∷
    cases.Vector vector.I64x2ShrS ∷
    cases.Vector vector.I64x2ShrU ∷
    cases.Vector vector.I64x2Add ∷
    cases.Vector vector.I64x2Sub ∷
    cases.Vector vector.I64x2Mul ∷
    cases.Vector vector.I64x2Eq ∷
    cases.Vector vector.I64x2Ne ∷
    cases.Vector vector.I64x2LtS ∷
    cases.Vector vector.I64x2GtS ∷
    cases.Vector vector.I64x2LeS ∷
    cases.Vector vector.I64x2GeS ∷
    cases.Vector vector.I64x2ExtMulLowI32x4S ∷
    cases.Vector vector.I64x2ExtMulHighI32x4S ∷
    cases.Vector vector.I64x2ExtMulLowI32x4U ∷
    cases.Vector vector.I64x2ExtMulHighI32x4U ∷
    cases.Vector vector.F32x4Abs ∷
    cases.Vector vector.F32x4Neg ∷
    cases.Vector vector.F32x4Sqrt ∷
    cases.Vector vector.F32x4Add ∷
    cases.Vector vector.F32x4Sub ∷
    cases.Vector vector.F32x4Mul ∷
    cases.Vector vector.F32x4Div ∷
    cases.Vector vector.F32x4Min ∷
    cases.Vector vector.F32x4Max ∷
    cases.Vector vector.F32x4PMin ∷
    cases.Vector vector.F32x4PMax ∷
    cases.Vector vector.F64x2Abs ∷
    cases.Vector vector.F64x2Neg ∷
    cases.Vector vector.F64x2Sqrt ∷
    cases.Vector vector.F64x2Add ∷
    cases.Vector vector.F64x2Sub ∷
    cases.Vector vector.F64x2Mul ∷
    cases.Vector vector.F64x2Div ∷
    cases.Vector vector.F64x2Min ∷
    cases.Vector vector.F64x2Max ∷
    cases.Vector vector.F64x2PMin ∷
    cases.Vector vector.F64x2PMax ∷
    cases.Vector vector.I32x4TruncSatF32x4S ∷
    cases.Vector vector.I32x4TruncSatF32x4U ∷
    cases.Vector vector.F32x4ConvertI32x4S ∷
    cases.Vector vector.F32x4ConvertI32x4U ∷
    cases.Vector vector.I32x4TruncSatF64x2SZero ∷
    cases.Vector vector.I32x4TruncSatF64x2UZero ∷
    cases.Vector vector.F64x2ConvertLowI32x4S ∷
    cases.Vector vector.F64x2ConvertLowI32x4U ∷
    cases.Vector vector.I8x16RelaxedSwizzle ∷
    cases.Vector vector.I32x4RelaxedTruncF32x4S ∷
    cases.Vector vector.I32x4RelaxedTruncF32x4U ∷
    cases.Vector vector.I32x4RelaxedTruncF64x2SZero ∷
    cases.Vector vector.I32x4RelaxedTruncF64x2UZero ∷
    cases.Vector vector.F32x4RelaxedMadd ∷
    cases.Vector vector.F32x4RelaxedNmadd ∷
    cases.Vector vector.F64x2RelaxedMadd ∷
    cases.Vector vector.F64x2RelaxedNmadd ∷
    cases.Vector vector.I8x16RelaxedLaneselect ∷
    cases.Vector vector.I16x8RelaxedLaneselect ∷
    cases.Vector vector.I32x4RelaxedLaneselect ∷
    cases.Vector vector.I64x2RelaxedLaneselect ∷
    cases.Vector vector.F32x4RelaxedMin ∷
    cases.Vector vector.F32x4RelaxedMax ∷
    cases.Vector vector.F64x2RelaxedMin ∷
    cases.Vector vector.F64x2RelaxedMax ∷
    cases.Vector vector.I16x8RelaxedQ15mulrS ∷
    cases.Vector vector.I16x8RelaxedDotI8x16I7x16S ∷
    cases.Vector vector.I32x4RelaxedDotI8x16I7x16AddS ∷
    cases.Atomic (atomic.MemoryAtomicNotify given.memory) ∷
    cases.Atomic (atomic.MemoryAtomicWait32 given.memory) ∷
    cases.Atomic (atomic.MemoryAtomicWait64 given.memory) ∷
    cases.Atomic (atomic.AtomicFence given.ordering) ∷
    cases.Atomic atomic.Pause ∷
    cases.Atomic (atomic.I32AtomicLoad given.memory) ∷
    cases.Atomic (atomic.I64AtomicLoad given.memory) ∷
    cases.Atomic (atomic.I32AtomicLoad8U given.memory) ∷
    cases.Atomic (atomic.I32AtomicLoad16U given.memory) ∷
    cases.Atomic (atomic.I64AtomicLoad8U given.memory) ∷
    cases.Atomic (atomic.I64AtomicLoad16U given.memory) ∷
    cases.Atomic (atomic.I64AtomicLoad32U given.memory) ∷
    cases.Atomic (atomic.I32AtomicStore given.memory) ∷
    cases.Atomic (atomic.I64AtomicStore given.memory) ∷
    cases.Atomic (atomic.I32AtomicStore8 given.memory) ∷
    cases.Atomic (atomic.I32AtomicStore16 given.memory) ∷
    cases.Atomic (atomic.I64AtomicStore8 given.memory) ∷
    cases.Atomic (atomic.I64AtomicStore16 given.memory) ∷
    cases.Atomic (atomic.I64AtomicStore32 given.memory) ∷
    cases.Atomic (atomic.I32AtomicRmwAdd given.memory) ∷
    cases.Atomic (atomic.I64AtomicRmwAdd given.memory) ∷
    cases.Atomic (atomic.I32AtomicRmw8AddU given.memory) ∷
    cases.Atomic (atomic.I32AtomicRmw16AddU given.memory) ∷
    cases.Atomic (atomic.I64AtomicRmw8AddU given.memory) ∷
    cases.Atomic (atomic.I64AtomicRmw16AddU given.memory) ∷
    cases.Atomic (atomic.I64AtomicRmw32AddU given.memory) ∷
    cases.Atomic (atomic.I32AtomicRmwSub given.memory) ∷
    cases.Atomic (atomic.I64AtomicRmwSub given.memory) ∷
    cases.Atomic (atomic.I32AtomicRmw8SubU given.memory) ∷
    cases.Atomic (atomic.I32AtomicRmw16SubU given.memory) ∷
    cases.Atomic (atomic.I64AtomicRmw8SubU given.memory) ∷
    cases.Atomic (atomic.I64AtomicRmw16SubU given.memory) ∷
    cases.Atomic (atomic.I64AtomicRmw32SubU given.memory) ∷
    cases.Atomic (atomic.I32AtomicRmwAnd given.memory) ∷
    cases.Atomic (atomic.I64AtomicRmwAnd given.memory) ∷
    cases.Atomic (atomic.I32AtomicRmw8AndU given.memory) ∷
    cases.Atomic (atomic.I32AtomicRmw16AndU given.memory) ∷
    cases.Atomic (atomic.I64AtomicRmw8AndU given.memory) ∷
    cases.Atomic (atomic.I64AtomicRmw16AndU given.memory) ∷
    cases.Atomic (atomic.I64AtomicRmw32AndU given.memory) ∷
    cases.Atomic (atomic.I32AtomicRmwOr given.memory) ∷
    cases.Atomic (atomic.I64AtomicRmwOr given.memory) ∷
    cases.Atomic (atomic.I32AtomicRmw8OrU given.memory) ∷
    cases.Atomic (atomic.I32AtomicRmw16OrU given.memory) ∷
    cases.Atomic (atomic.I64AtomicRmw8OrU given.memory) ∷
    cases.Atomic (atomic.I64AtomicRmw16OrU given.memory) ∷
    cases.Atomic (atomic.I64AtomicRmw32OrU given.memory) ∷
    cases.Atomic (atomic.I32AtomicRmwXor given.memory) ∷
    cases.Atomic (atomic.I64AtomicRmwXor given.memory) ∷
    cases.Atomic (atomic.I32AtomicRmw8XorU given.memory) ∷
    cases.Atomic (atomic.I32AtomicRmw16XorU given.memory) ∷
    cases.Atomic (atomic.I64AtomicRmw8XorU given.memory) ∷
    cases.Atomic (atomic.I64AtomicRmw16XorU given.memory) ∷
    cases.Atomic (atomic.I64AtomicRmw32XorU given.memory) ∷
    cases.Atomic (atomic.I32AtomicRmwXchg given.memory) ∷
    cases.Atomic (atomic.I64AtomicRmwXchg given.memory) ∷
    cases.Atomic (atomic.I32AtomicRmw8XchgU given.memory) ∷
    cases.Atomic (atomic.I32AtomicRmw16XchgU given.memory) ∷
    cases.Atomic (atomic.I64AtomicRmw8XchgU given.memory) ∷
    cases.Atomic (atomic.I64AtomicRmw16XchgU given.memory) ∷
    cases.Atomic (atomic.I64AtomicRmw32XchgU given.memory) ∷
    cases.Atomic (atomic.I32AtomicRmwCmpxchg given.memory) ∷
    cases.Atomic (atomic.I64AtomicRmwCmpxchg given.memory) ∷
    cases.Atomic (atomic.I32AtomicRmw8CmpxchgU given.memory) ∷
    cases.Atomic (atomic.I32AtomicRmw16CmpxchgU given.memory) ∷
    cases.Atomic (atomic.I64AtomicRmw8CmpxchgU given.memory) ∷
    cases.Atomic (atomic.I64AtomicRmw16CmpxchgU given.memory) ∷
    cases.Atomic (atomic.I64AtomicRmw32CmpxchgU given.memory) ∷
    cases.Atomic (atomic.GlobalAtomicGet given.ordering given.index) ∷
    cases.Atomic (atomic.GlobalAtomicSet given.ordering given.index) ∷
    cases.Atomic (atomic.GlobalAtomicRmwAdd given.ordering given.index) ∷
    cases.Atomic (atomic.GlobalAtomicRmwSub given.ordering given.index) ∷
    cases.Atomic (atomic.GlobalAtomicRmwAnd given.ordering given.index) ∷
    cases.Atomic (atomic.GlobalAtomicRmwOr given.ordering given.index) ∷
    cases.Atomic (atomic.GlobalAtomicRmwXor given.ordering given.index) ∷
    cases.Atomic (atomic.GlobalAtomicRmwXchg given.ordering given.index) ∷
    cases.Atomic (atomic.GlobalAtomicRmwCmpxchg given.ordering given.index) ∷
    cases.Atomic (atomic.TableAtomicGet given.ordering given.index) ∷
    cases.Atomic (atomic.TableAtomicSet given.ordering given.index) ∷
    cases.Atomic (atomic.TableAtomicRmwXchg given.ordering given.index) ∷
    cases.Atomic (atomic.TableAtomicRmwCmpxchg given.ordering given.index) ∷
    cases.Atomic (atomic.StructAtomicGet given.ordering given.index given.second_index) ∷
    cases.Atomic (atomic.StructAtomicGetS given.ordering given.index given.second_index) ∷
    cases.Atomic (atomic.StructAtomicGetU given.ordering given.index given.second_index) ∷
    cases.Atomic (atomic.StructAtomicSet given.ordering given.index given.second_index) ∷
    cases.Atomic (atomic.StructAtomicRmwAdd given.ordering given.index given.second_index) ∷
    cases.Atomic (atomic.StructAtomicRmwSub given.ordering given.index given.second_index) ∷
    cases.Atomic (atomic.StructAtomicRmwAnd given.ordering given.index given.second_index) ∷
    cases.Atomic (atomic.StructAtomicRmwOr given.ordering given.index given.second_index) ∷
    cases.Atomic (atomic.StructAtomicRmwXor given.ordering given.index given.second_index) ∷
    cases.Atomic (atomic.StructAtomicRmwXchg given.ordering given.index given.second_index) ∷
    cases.Atomic (atomic.StructAtomicRmwCmpxchg given.ordering given.index given.second_index) ∷
    cases.Atomic (atomic.ArrayAtomicGet given.ordering given.index) ∷
    cases.Atomic (atomic.ArrayAtomicGetS given.ordering given.index) ∷
    cases.Atomic (atomic.ArrayAtomicGetU given.ordering given.index) ∷
    cases.Atomic (atomic.ArrayAtomicSet given.ordering given.index) ∷
    cases.Atomic (atomic.ArrayAtomicRmwAdd given.ordering given.index) ∷
    cases.Atomic (atomic.ArrayAtomicRmwSub given.ordering given.index) ∷
    cases.Atomic (atomic.ArrayAtomicRmwAnd given.ordering given.index) ∷
    cases.Atomic (atomic.ArrayAtomicRmwOr given.ordering given.index) ∷
    cases.Atomic (atomic.ArrayAtomicRmwXor given.ordering given.index) ∷
    cases.Atomic (atomic.ArrayAtomicRmwXchg given.ordering given.index) ∷
    cases.Atomic (atomic.ArrayAtomicRmwCmpxchg given.ordering given.index) ∷
    cases.Atomic atomic.RefI31Shared ∷
    -- end: written by tools/instructions
    []

-- The cases are the rows of the table in order: each has the opcode of its row, and the immediates
-- of its shape.
pub record AreRows {A : Type 0} (is : List (Instruction A)) (rows : Table) : Type 0 where
  pub ops : map (λ i. (row_of i).op) is ≡ map (λ row. row.0) rows
  pub parts : map (λ i. map part_of (row_of i).arguments) is ≡ map (λ row. parts_of row.1) rows

-- The instruction is one of the cases, with some fields.
pub record IsCase {A : Type 0} (i : Instruction A) : Type 0 where
  pub fields : Given A
  pub contained : Contains (all_cases fields) i
