-- Written by tools/instructions from tools/instructions.tsv: do not edit.
-- This file defines the opcodes and immediates of the instructions of `Atomic`.
use Rattle.std.specs.Prelude.{[], ◌∷◌}
use Rattle.wasm_insn.specs.declared.atomic.Atomic.{Atomic}
use Rattle.wasm_insn.specs.declared.atomic.Atomic.TheVariants as cases
use Rattle.wasm_insn.specs.declared.op.Op.TheVariants.{Prefixed}
use Rattle.wasm_insn.specs.Arguments.{unsigned, memory, ordering}
use Rattle.wasm_insn.specs.Plain.{Plain}

-- The opcode and the immediates of each instruction.
abbrev pub atomic_row : Atomic → Plain
atomic_row (cases.MemoryAtomicNotify a) = record { op = Prefixed 0xFE 0x00; arguments = memory a ∷ [] }
atomic_row (cases.MemoryAtomicWait32 a) = record { op = Prefixed 0xFE 0x01; arguments = memory a ∷ [] }
atomic_row (cases.MemoryAtomicWait64 a) = record { op = Prefixed 0xFE 0x02; arguments = memory a ∷ [] }
atomic_row (cases.AtomicFence a) = record { op = Prefixed 0xFE 0x03; arguments = ordering a ∷ [] }
atomic_row cases.Pause = record { op = Prefixed 0xFE 0x04; arguments = [] }
atomic_row (cases.I32AtomicLoad a) = record { op = Prefixed 0xFE 0x10; arguments = memory a ∷ [] }
atomic_row (cases.I64AtomicLoad a) = record { op = Prefixed 0xFE 0x11; arguments = memory a ∷ [] }
atomic_row (cases.I32AtomicLoad8U a) = record { op = Prefixed 0xFE 0x12; arguments = memory a ∷ [] }
atomic_row (cases.I32AtomicLoad16U a) = record { op = Prefixed 0xFE 0x13; arguments = memory a ∷ [] }
atomic_row (cases.I64AtomicLoad8U a) = record { op = Prefixed 0xFE 0x14; arguments = memory a ∷ [] }
atomic_row (cases.I64AtomicLoad16U a) = record { op = Prefixed 0xFE 0x15; arguments = memory a ∷ [] }
atomic_row (cases.I64AtomicLoad32U a) = record { op = Prefixed 0xFE 0x16; arguments = memory a ∷ [] }
atomic_row (cases.I32AtomicStore a) = record { op = Prefixed 0xFE 0x17; arguments = memory a ∷ [] }
atomic_row (cases.I64AtomicStore a) = record { op = Prefixed 0xFE 0x18; arguments = memory a ∷ [] }
atomic_row (cases.I32AtomicStore8 a) = record { op = Prefixed 0xFE 0x19; arguments = memory a ∷ [] }
atomic_row (cases.I32AtomicStore16 a) = record { op = Prefixed 0xFE 0x1A; arguments = memory a ∷ [] }
atomic_row (cases.I64AtomicStore8 a) = record { op = Prefixed 0xFE 0x1B; arguments = memory a ∷ [] }
atomic_row (cases.I64AtomicStore16 a) = record { op = Prefixed 0xFE 0x1C; arguments = memory a ∷ [] }
atomic_row (cases.I64AtomicStore32 a) = record { op = Prefixed 0xFE 0x1D; arguments = memory a ∷ [] }
atomic_row (cases.I32AtomicRmwAdd a) = record { op = Prefixed 0xFE 0x1E; arguments = memory a ∷ [] }
atomic_row (cases.I64AtomicRmwAdd a) = record { op = Prefixed 0xFE 0x1F; arguments = memory a ∷ [] }
atomic_row (cases.I32AtomicRmw8AddU a) = record { op = Prefixed 0xFE 0x20; arguments = memory a ∷ [] }
atomic_row (cases.I32AtomicRmw16AddU a) = record { op = Prefixed 0xFE 0x21; arguments = memory a ∷ [] }
atomic_row (cases.I64AtomicRmw8AddU a) = record { op = Prefixed 0xFE 0x22; arguments = memory a ∷ [] }
atomic_row (cases.I64AtomicRmw16AddU a) = record { op = Prefixed 0xFE 0x23; arguments = memory a ∷ [] }
atomic_row (cases.I64AtomicRmw32AddU a) = record { op = Prefixed 0xFE 0x24; arguments = memory a ∷ [] }
atomic_row (cases.I32AtomicRmwSub a) = record { op = Prefixed 0xFE 0x25; arguments = memory a ∷ [] }
atomic_row (cases.I64AtomicRmwSub a) = record { op = Prefixed 0xFE 0x26; arguments = memory a ∷ [] }
atomic_row (cases.I32AtomicRmw8SubU a) = record { op = Prefixed 0xFE 0x27; arguments = memory a ∷ [] }
atomic_row (cases.I32AtomicRmw16SubU a) = record { op = Prefixed 0xFE 0x28; arguments = memory a ∷ [] }
atomic_row (cases.I64AtomicRmw8SubU a) = record { op = Prefixed 0xFE 0x29; arguments = memory a ∷ [] }
atomic_row (cases.I64AtomicRmw16SubU a) = record { op = Prefixed 0xFE 0x2A; arguments = memory a ∷ [] }
atomic_row (cases.I64AtomicRmw32SubU a) = record { op = Prefixed 0xFE 0x2B; arguments = memory a ∷ [] }
atomic_row (cases.I32AtomicRmwAnd a) = record { op = Prefixed 0xFE 0x2C; arguments = memory a ∷ [] }
atomic_row (cases.I64AtomicRmwAnd a) = record { op = Prefixed 0xFE 0x2D; arguments = memory a ∷ [] }
atomic_row (cases.I32AtomicRmw8AndU a) = record { op = Prefixed 0xFE 0x2E; arguments = memory a ∷ [] }
atomic_row (cases.I32AtomicRmw16AndU a) = record { op = Prefixed 0xFE 0x2F; arguments = memory a ∷ [] }
atomic_row (cases.I64AtomicRmw8AndU a) = record { op = Prefixed 0xFE 0x30; arguments = memory a ∷ [] }
atomic_row (cases.I64AtomicRmw16AndU a) = record { op = Prefixed 0xFE 0x31; arguments = memory a ∷ [] }
atomic_row (cases.I64AtomicRmw32AndU a) = record { op = Prefixed 0xFE 0x32; arguments = memory a ∷ [] }
atomic_row (cases.I32AtomicRmwOr a) = record { op = Prefixed 0xFE 0x33; arguments = memory a ∷ [] }
atomic_row (cases.I64AtomicRmwOr a) = record { op = Prefixed 0xFE 0x34; arguments = memory a ∷ [] }
atomic_row (cases.I32AtomicRmw8OrU a) = record { op = Prefixed 0xFE 0x35; arguments = memory a ∷ [] }
atomic_row (cases.I32AtomicRmw16OrU a) = record { op = Prefixed 0xFE 0x36; arguments = memory a ∷ [] }
atomic_row (cases.I64AtomicRmw8OrU a) = record { op = Prefixed 0xFE 0x37; arguments = memory a ∷ [] }
atomic_row (cases.I64AtomicRmw16OrU a) = record { op = Prefixed 0xFE 0x38; arguments = memory a ∷ [] }
atomic_row (cases.I64AtomicRmw32OrU a) = record { op = Prefixed 0xFE 0x39; arguments = memory a ∷ [] }
atomic_row (cases.I32AtomicRmwXor a) = record { op = Prefixed 0xFE 0x3A; arguments = memory a ∷ [] }
atomic_row (cases.I64AtomicRmwXor a) = record { op = Prefixed 0xFE 0x3B; arguments = memory a ∷ [] }
atomic_row (cases.I32AtomicRmw8XorU a) = record { op = Prefixed 0xFE 0x3C; arguments = memory a ∷ [] }
atomic_row (cases.I32AtomicRmw16XorU a) = record { op = Prefixed 0xFE 0x3D; arguments = memory a ∷ [] }
atomic_row (cases.I64AtomicRmw8XorU a) = record { op = Prefixed 0xFE 0x3E; arguments = memory a ∷ [] }
atomic_row (cases.I64AtomicRmw16XorU a) = record { op = Prefixed 0xFE 0x3F; arguments = memory a ∷ [] }
atomic_row (cases.I64AtomicRmw32XorU a) = record { op = Prefixed 0xFE 0x40; arguments = memory a ∷ [] }
atomic_row (cases.I32AtomicRmwXchg a) = record { op = Prefixed 0xFE 0x41; arguments = memory a ∷ [] }
atomic_row (cases.I64AtomicRmwXchg a) = record { op = Prefixed 0xFE 0x42; arguments = memory a ∷ [] }
atomic_row (cases.I32AtomicRmw8XchgU a) = record { op = Prefixed 0xFE 0x43; arguments = memory a ∷ [] }
atomic_row (cases.I32AtomicRmw16XchgU a) = record { op = Prefixed 0xFE 0x44; arguments = memory a ∷ [] }
atomic_row (cases.I64AtomicRmw8XchgU a) = record { op = Prefixed 0xFE 0x45; arguments = memory a ∷ [] }
atomic_row (cases.I64AtomicRmw16XchgU a) = record { op = Prefixed 0xFE 0x46; arguments = memory a ∷ [] }
atomic_row (cases.I64AtomicRmw32XchgU a) = record { op = Prefixed 0xFE 0x47; arguments = memory a ∷ [] }
atomic_row (cases.I32AtomicRmwCmpxchg a) = record { op = Prefixed 0xFE 0x48; arguments = memory a ∷ [] }
atomic_row (cases.I64AtomicRmwCmpxchg a) = record { op = Prefixed 0xFE 0x49; arguments = memory a ∷ [] }
atomic_row (cases.I32AtomicRmw8CmpxchgU a) = record { op = Prefixed 0xFE 0x4A; arguments = memory a ∷ [] }
atomic_row (cases.I32AtomicRmw16CmpxchgU a) = record { op = Prefixed 0xFE 0x4B; arguments = memory a ∷ [] }
atomic_row (cases.I64AtomicRmw8CmpxchgU a) = record { op = Prefixed 0xFE 0x4C; arguments = memory a ∷ [] }
atomic_row (cases.I64AtomicRmw16CmpxchgU a) = record { op = Prefixed 0xFE 0x4D; arguments = memory a ∷ [] }
atomic_row (cases.I64AtomicRmw32CmpxchgU a) = record { op = Prefixed 0xFE 0x4E; arguments = memory a ∷ [] }
atomic_row (cases.GlobalAtomicGet a b) = record { op = Prefixed 0xFE 0x4F; arguments = ordering a ∷ unsigned b ∷ [] }
atomic_row (cases.GlobalAtomicSet a b) = record { op = Prefixed 0xFE 0x50; arguments = ordering a ∷ unsigned b ∷ [] }
atomic_row (cases.GlobalAtomicRmwAdd a b) = record { op = Prefixed 0xFE 0x51; arguments = ordering a ∷ unsigned b ∷ [] }
atomic_row (cases.GlobalAtomicRmwSub a b) = record { op = Prefixed 0xFE 0x52; arguments = ordering a ∷ unsigned b ∷ [] }
atomic_row (cases.GlobalAtomicRmwAnd a b) = record { op = Prefixed 0xFE 0x53; arguments = ordering a ∷ unsigned b ∷ [] }
atomic_row (cases.GlobalAtomicRmwOr a b) = record { op = Prefixed 0xFE 0x54; arguments = ordering a ∷ unsigned b ∷ [] }
atomic_row (cases.GlobalAtomicRmwXor a b) = record { op = Prefixed 0xFE 0x55; arguments = ordering a ∷ unsigned b ∷ [] }
atomic_row (cases.GlobalAtomicRmwXchg a b) = record { op = Prefixed 0xFE 0x56; arguments = ordering a ∷ unsigned b ∷ [] }
atomic_row (cases.GlobalAtomicRmwCmpxchg a b) = record { op = Prefixed 0xFE 0x57; arguments = ordering a ∷ unsigned b ∷ [] }
atomic_row (cases.TableAtomicGet a b) = record { op = Prefixed 0xFE 0x58; arguments = ordering a ∷ unsigned b ∷ [] }
atomic_row (cases.TableAtomicSet a b) = record { op = Prefixed 0xFE 0x59; arguments = ordering a ∷ unsigned b ∷ [] }
atomic_row (cases.TableAtomicRmwXchg a b) = record { op = Prefixed 0xFE 0x5A; arguments = ordering a ∷ unsigned b ∷ [] }
atomic_row (cases.TableAtomicRmwCmpxchg a b) = record { op = Prefixed 0xFE 0x5B; arguments = ordering a ∷ unsigned b ∷ [] }
atomic_row (cases.StructAtomicGet a b c) = record { op = Prefixed 0xFE 0x5C; arguments = ordering a ∷ unsigned b ∷ unsigned c ∷ [] }
atomic_row (cases.StructAtomicGetS a b c) = record { op = Prefixed 0xFE 0x5D; arguments = ordering a ∷ unsigned b ∷ unsigned c ∷ [] }
atomic_row (cases.StructAtomicGetU a b c) = record { op = Prefixed 0xFE 0x5E; arguments = ordering a ∷ unsigned b ∷ unsigned c ∷ [] }
atomic_row (cases.StructAtomicSet a b c) = record { op = Prefixed 0xFE 0x5F; arguments = ordering a ∷ unsigned b ∷ unsigned c ∷ [] }
atomic_row (cases.StructAtomicRmwAdd a b c) = record { op = Prefixed 0xFE 0x60; arguments = ordering a ∷ unsigned b ∷ unsigned c ∷ [] }
atomic_row (cases.StructAtomicRmwSub a b c) = record { op = Prefixed 0xFE 0x61; arguments = ordering a ∷ unsigned b ∷ unsigned c ∷ [] }
atomic_row (cases.StructAtomicRmwAnd a b c) = record { op = Prefixed 0xFE 0x62; arguments = ordering a ∷ unsigned b ∷ unsigned c ∷ [] }
atomic_row (cases.StructAtomicRmwOr a b c) = record { op = Prefixed 0xFE 0x63; arguments = ordering a ∷ unsigned b ∷ unsigned c ∷ [] }
atomic_row (cases.StructAtomicRmwXor a b c) = record { op = Prefixed 0xFE 0x64; arguments = ordering a ∷ unsigned b ∷ unsigned c ∷ [] }
atomic_row (cases.StructAtomicRmwXchg a b c) = record { op = Prefixed 0xFE 0x65; arguments = ordering a ∷ unsigned b ∷ unsigned c ∷ [] }
atomic_row (cases.StructAtomicRmwCmpxchg a b c) = record { op = Prefixed 0xFE 0x66; arguments = ordering a ∷ unsigned b ∷ unsigned c ∷ [] }
atomic_row (cases.ArrayAtomicGet a b) = record { op = Prefixed 0xFE 0x67; arguments = ordering a ∷ unsigned b ∷ [] }
atomic_row (cases.ArrayAtomicGetS a b) = record { op = Prefixed 0xFE 0x68; arguments = ordering a ∷ unsigned b ∷ [] }
atomic_row (cases.ArrayAtomicGetU a b) = record { op = Prefixed 0xFE 0x69; arguments = ordering a ∷ unsigned b ∷ [] }
atomic_row (cases.ArrayAtomicSet a b) = record { op = Prefixed 0xFE 0x6A; arguments = ordering a ∷ unsigned b ∷ [] }
atomic_row (cases.ArrayAtomicRmwAdd a b) = record { op = Prefixed 0xFE 0x6B; arguments = ordering a ∷ unsigned b ∷ [] }
atomic_row (cases.ArrayAtomicRmwSub a b) = record { op = Prefixed 0xFE 0x6C; arguments = ordering a ∷ unsigned b ∷ [] }
atomic_row (cases.ArrayAtomicRmwAnd a b) = record { op = Prefixed 0xFE 0x6D; arguments = ordering a ∷ unsigned b ∷ [] }
atomic_row (cases.ArrayAtomicRmwOr a b) = record { op = Prefixed 0xFE 0x6E; arguments = ordering a ∷ unsigned b ∷ [] }
atomic_row (cases.ArrayAtomicRmwXor a b) = record { op = Prefixed 0xFE 0x6F; arguments = ordering a ∷ unsigned b ∷ [] }
atomic_row (cases.ArrayAtomicRmwXchg a b) = record { op = Prefixed 0xFE 0x70; arguments = ordering a ∷ unsigned b ∷ [] }
atomic_row (cases.ArrayAtomicRmwCmpxchg a b) = record { op = Prefixed 0xFE 0x71; arguments = ordering a ∷ unsigned b ∷ [] }
atomic_row cases.RefI31Shared = record { op = Prefixed 0xFE 0x72; arguments = [] }
