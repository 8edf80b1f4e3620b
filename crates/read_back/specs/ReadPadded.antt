-- This file defines the items of sections with padded LEB128.
use Rattle.std.specs.Prelude.{ℕ, List, [], ◌∷◌, None, Some, pos}
use Rattle.std.specs.declared.alloc.Global.{Global}
use Rattle.wasm_base.specs.Words.{vec, SectionDecoding, padded_decoding_of}
use Rattle.wasm_code.specs.Words.{Body, normal_row}
use Rattle.wasm_custom.specs.Words.{NameItem, Indirect, name_payload}
use Rattle.wasm_insn.specs.Words.{Plain}
use Rattle.wasm_insn.specs.declared.instruction.Instruction.TheVariants.{RefFunc, I32Const, LocalGet, End}
use Rattle.wasm_sections.specs.Words.{TableItem, table_item}
use Rattle.read_back.specs.FirstValues.{functions_type}
use Rattle.wasm_sections.specs.DataSegments as segments
use Rattle.wasm_sections.specs.Elements as elements

-- A table of references to function 0.
abbrev pub first_everywhere : TableItem
first_everywhere = record { table_type = functions_type 1; init = Some (normal_row {A = Global} (RefFunc 0) ∷ []) }

-- The instruction `i32.const 0`.
abbrev pub zero_offset : List Plain
zero_offset = normal_row {A = Global} (I32Const (pos 0)) ∷ []

-- Function 1 at offset 0 of table 0.
abbrev pub at_front : elements.ElementItem (List Plain)
at_front = record { segment_mode = elements.active None zero_offset; elements = elements.functions (1 ∷ []) }

-- These bytes at offset 0 of this memory.
abbrev pub bytes_at_front : ℕ → List ℕ → segments.DataItem
bytes_at_front memory bytes = segments.active memory zero_offset bytes

-- The name `a` of local 0 of function 0.
abbrev pub local_name : List NameItem
local_name = Indirect 2 ((0, (0, 97 ∷ []) ∷ []) ∷ []) ∷ []

-- A body without locals, with `local.get 0` twice and `end`.
abbrev pub gets_twice : Body
gets_twice = record { runs = []; code = normal_row {A = Global} (LocalGet 0) ∷ normal_row {A = Global} (LocalGet 0) ∷ normal_row {A = Global} End ∷ [] }

-- The sections, in order.
abbrev pub padded_sections : ℕ → List ℕ → List SectionDecoding
padded_sections memory bytes =
    padded_decoding_of 4 (vec table_item) (first_everywhere ∷ [])
    ∷ padded_decoding_of 9 (vec elements.element) (at_front ∷ [])
    ∷ padded_decoding_of 11 (vec segments.data_item) (bytes_at_front memory bytes ∷ [])
    ∷ padded_decoding_of 0 name_payload local_name
    ∷ []
