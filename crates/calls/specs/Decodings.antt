-- This file defines bodies that decode to other instructions than those that were encoded.
use Rattle.std.specs.Prelude.{List, [], ◌∷◌, Some, pos}
use Rattle.wasm_immediates.specs.declared.memory.MemArgOrdering.TheVariants.{Op}
use Rattle.wasm_immediates.specs.declared.memory.MemArgTarget.TheVariants.{Memory}
use Rattle.wasm_immediates.specs.declared.memory.Ordering.TheVariants.{SeqCst}
use Rattle.wasm_insn.specs.declared.op.Op.TheVariants.{Byte}
use Rattle.wasm_insn.specs.Words.{memory, signed32, Plain}
use Rattle.wasm_code.specs.Words.{Body}

-- A body without locals, with this code.
abbrev pub without_locals : List Plain → Body
without_locals code = record { runs = []; code = code }

-- The instruction `i32.load` of alignment 0 and offset 11, with an ordering.
abbrev pub ordered_load : Plain
ordered_load = record { op = Byte 0x28; arguments = memory (record { offset = 11; align = 0; target = Memory 0; ordering = Some (Op SeqCst) }) ∷ [] }

-- The instructions `i32.const 1` and `end`.
abbrev pub constant_and_end : List Plain
constant_and_end = record { op = Byte 0x41; arguments = signed32 (pos 1) ∷ [] } ∷ record { op = Byte 0x0B; arguments = [] } ∷ []
