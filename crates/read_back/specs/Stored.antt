-- This file defines the items of the sections of elements, data and code.
use Rattle.std.specs.Prelude.{ℕ, List, [], ◌∷◌, None, pos}
use Rattle.std.specs.declared.alloc.Global.{Global}
use Rattle.wasm_base.specs.declared.types.ValType.TheVariants.{I32}
use Rattle.wasm_code.specs.Words.{Body, normal_row}
use Rattle.wasm_insn.specs.Words.{Plain}
use Rattle.wasm_insn.specs.declared.instruction.Instruction.TheVariants.{I32Const, LocalGet, End}
use Rattle.wasm_sections.specs.DataSegments as segments
use Rattle.wasm_sections.specs.Elements as elements

-- The instruction `i32.const 8`.
abbrev pub eight : List Plain
eight = normal_row {A = Global} (I32Const (pos 8)) ∷ []

-- The function of this index at offset 8 of table 0.
abbrev pub function_at_8 : ℕ → elements.ElementItem (List Plain)
function_at_8 index = record { segment_mode = elements.active None eight; elements = elements.functions (index ∷ []) }

-- A passive segment of the functions 1 and 2.
abbrev pub later_functions : elements.ElementItem (List Plain)
later_functions = record { segment_mode = elements.passive; elements = elements.functions (1 ∷ 2 ∷ []) }

-- Two bytes at offset 8 of memory 0.
abbrev pub bytes_at_8 : segments.DataItem
bytes_at_8 = segments.active 0 eight (5 ∷ 6 ∷ [])

-- A passive segment of one byte.
abbrev pub byte_later : segments.DataItem
byte_later = segments.passive (7 ∷ [])

-- A body with two locals that returns the local of this index.
abbrev pub of_two_locals : ℕ → Body
of_two_locals index = record { runs = (2, I32) ∷ []; code = normal_row {A = Global} (LocalGet index) ∷ normal_row {A = Global} End ∷ [] }

-- A body without locals, and `end`.
abbrev pub empty_body : Body
empty_body = record { runs = []; code = normal_row {A = Global} End ∷ [] }
