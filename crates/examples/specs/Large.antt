-- This file defines the module of 64-bit numbers.
use Rattle.std.specs.Prelude.{List, [], ◌∷◌, true, false, Some, None, pos, neg_ℤ}
use Rattle.wasm_base.specs.Words.{SectionDecoding}
use Rattle.wasm_base.specs.declared.types.ValType.TheVariants.{I64}
use Rattle.wasm_insn.specs.declared.instruction.Instruction.TheVariants.{I64Const}
use Rattle.wasm_sections.specs.Words.{GlobalItem, global_decoding, memory_decoding}
use Rattle.wasm_sections.specs.declared.memory.MemoryType.{MemoryType}
use Rattle.examples.specs.Bodies.{row}

-- A memory of 1 to 8589934592 pages, with 64-bit addresses.
abbrev pub large_memory : MemoryType
large_memory = record { minimum = 1; maximum = Some 8589934592; memory64 = true; shared = false; page_size_log2 = None }

-- An immutable global with the value -1099511627776.
abbrev pub large_constant : GlobalItem
large_constant = record { global_type = record { val_type = I64; mutable = false; shared = false }; init = row (I64Const (neg_ℤ (pos 1099511627776))) ∷ [] }

-- The sections of the module, in order.
abbrev pub large_sections : List SectionDecoding
large_sections = memory_decoding (large_memory ∷ []) ∷ global_decoding (large_constant ∷ []) ∷ []
