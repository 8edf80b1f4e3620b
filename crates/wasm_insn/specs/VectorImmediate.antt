-- Written by tools/instructions from tools/instructions.tsv: do not edit.
-- This file defines the opcodes and immediates of the instructions of `VectorImmediate`.
use Rattle.std.specs.Prelude.{[], ◌∷◌}
use Rattle.wasm_insn.specs.declared.vector_immediate.VectorImmediate.{VectorImmediate}
use Rattle.wasm_insn.specs.declared.vector_immediate.VectorImmediate.TheVariants as cases
use Rattle.wasm_insn.specs.declared.op.Op.TheVariants.{Prefixed}
use Rattle.wasm_insn.specs.Arguments.{vector, memory, lane, lanes}
use Rattle.wasm_insn.specs.Plain.{Plain}

-- The opcode and the immediates of each instruction.
abbrev pub vector_immediate_row : VectorImmediate → Plain
vector_immediate_row (cases.V128Load a) = record { op = Prefixed 0xFD 0; arguments = memory a ∷ [] }
vector_immediate_row (cases.V128Load8x8S a) = record { op = Prefixed 0xFD 1; arguments = memory a ∷ [] }
vector_immediate_row (cases.V128Load8x8U a) = record { op = Prefixed 0xFD 2; arguments = memory a ∷ [] }
vector_immediate_row (cases.V128Load16x4S a) = record { op = Prefixed 0xFD 3; arguments = memory a ∷ [] }
vector_immediate_row (cases.V128Load16x4U a) = record { op = Prefixed 0xFD 4; arguments = memory a ∷ [] }
vector_immediate_row (cases.V128Load32x2S a) = record { op = Prefixed 0xFD 5; arguments = memory a ∷ [] }
vector_immediate_row (cases.V128Load32x2U a) = record { op = Prefixed 0xFD 6; arguments = memory a ∷ [] }
vector_immediate_row (cases.V128Load8Splat a) = record { op = Prefixed 0xFD 7; arguments = memory a ∷ [] }
vector_immediate_row (cases.V128Load16Splat a) = record { op = Prefixed 0xFD 8; arguments = memory a ∷ [] }
vector_immediate_row (cases.V128Load32Splat a) = record { op = Prefixed 0xFD 9; arguments = memory a ∷ [] }
vector_immediate_row (cases.V128Load64Splat a) = record { op = Prefixed 0xFD 10; arguments = memory a ∷ [] }
vector_immediate_row (cases.V128Store a) = record { op = Prefixed 0xFD 11; arguments = memory a ∷ [] }
vector_immediate_row (cases.V128Const a) = record { op = Prefixed 0xFD 12; arguments = vector a ∷ [] }
vector_immediate_row (cases.I8x16Shuffle a) = record { op = Prefixed 0xFD 13; arguments = lanes a ∷ [] }
vector_immediate_row (cases.I8x16ExtractLaneS a) = record { op = Prefixed 0xFD 21; arguments = lane a ∷ [] }
vector_immediate_row (cases.I8x16ExtractLaneU a) = record { op = Prefixed 0xFD 22; arguments = lane a ∷ [] }
vector_immediate_row (cases.I8x16ReplaceLane a) = record { op = Prefixed 0xFD 23; arguments = lane a ∷ [] }
vector_immediate_row (cases.I16x8ExtractLaneS a) = record { op = Prefixed 0xFD 24; arguments = lane a ∷ [] }
vector_immediate_row (cases.I16x8ExtractLaneU a) = record { op = Prefixed 0xFD 25; arguments = lane a ∷ [] }
vector_immediate_row (cases.I16x8ReplaceLane a) = record { op = Prefixed 0xFD 26; arguments = lane a ∷ [] }
vector_immediate_row (cases.I32x4ExtractLane a) = record { op = Prefixed 0xFD 27; arguments = lane a ∷ [] }
vector_immediate_row (cases.I32x4ReplaceLane a) = record { op = Prefixed 0xFD 28; arguments = lane a ∷ [] }
vector_immediate_row (cases.I64x2ExtractLane a) = record { op = Prefixed 0xFD 29; arguments = lane a ∷ [] }
vector_immediate_row (cases.I64x2ReplaceLane a) = record { op = Prefixed 0xFD 30; arguments = lane a ∷ [] }
vector_immediate_row (cases.F32x4ExtractLane a) = record { op = Prefixed 0xFD 31; arguments = lane a ∷ [] }
vector_immediate_row (cases.F32x4ReplaceLane a) = record { op = Prefixed 0xFD 32; arguments = lane a ∷ [] }
vector_immediate_row (cases.F64x2ExtractLane a) = record { op = Prefixed 0xFD 33; arguments = lane a ∷ [] }
vector_immediate_row (cases.F64x2ReplaceLane a) = record { op = Prefixed 0xFD 34; arguments = lane a ∷ [] }
vector_immediate_row (cases.V128Load8Lane a b) = record { op = Prefixed 0xFD 84; arguments = memory a ∷ lane b ∷ [] }
vector_immediate_row (cases.V128Load16Lane a b) = record { op = Prefixed 0xFD 85; arguments = memory a ∷ lane b ∷ [] }
vector_immediate_row (cases.V128Load32Lane a b) = record { op = Prefixed 0xFD 86; arguments = memory a ∷ lane b ∷ [] }
vector_immediate_row (cases.V128Load64Lane a b) = record { op = Prefixed 0xFD 87; arguments = memory a ∷ lane b ∷ [] }
vector_immediate_row (cases.V128Store8Lane a b) = record { op = Prefixed 0xFD 88; arguments = memory a ∷ lane b ∷ [] }
vector_immediate_row (cases.V128Store16Lane a b) = record { op = Prefixed 0xFD 89; arguments = memory a ∷ lane b ∷ [] }
vector_immediate_row (cases.V128Store32Lane a b) = record { op = Prefixed 0xFD 90; arguments = memory a ∷ lane b ∷ [] }
vector_immediate_row (cases.V128Store64Lane a b) = record { op = Prefixed 0xFD 91; arguments = memory a ∷ lane b ∷ [] }
vector_immediate_row (cases.V128Load32Zero a) = record { op = Prefixed 0xFD 92; arguments = memory a ∷ [] }
vector_immediate_row (cases.V128Load64Zero a) = record { op = Prefixed 0xFD 93; arguments = memory a ∷ [] }
