-- This file defines the module that fills a table and a memory.
use Rattle.std.specs.Prelude.{ℕ, List, [], ◌∷◌, false, None, pos}
use Rattle.wasm_base.specs.Words.{SectionDecoding, raw_decoding, FUNCREF}
use Rattle.wasm_insn.specs.Words.{Plain}
use Rattle.wasm_insn.specs.declared.instruction.Instruction.TheVariants.{I32Const, RefFunc}
use Rattle.wasm_sections.specs.Words.{data_count_decoding, data_decoding, element_decoding, import_decoding, memory_decoding, TableItem, table_decoding}
use Rattle.examples.specs.Bodies.{row}
use Rattle.examples.specs.Whole.{ready, one_page}
use Rattle.wasm_sections.specs.DataSegments as segments
use Rattle.wasm_sections.specs.Elements as elements

-- The payload of a type section with one type, of a function without parameters and results.
abbrev pub one_type : List ℕ
one_type = 0x01 ∷ 0x60 ∷ 0x00 ∷ 0x00 ∷ []

-- A table of three functions.
abbrev pub three_places : TableItem
three_places = record { table_type = record { element_type = FUNCREF; table64 = false; minimum = 3; maximum = None; shared = false }; init = None }

-- Function 0 at offset 0 of table 0.
abbrev pub ready_at_0 : elements.ElementItem (List Plain)
ready_at_0 = record { segment_mode = elements.active None (row (I32Const (pos 0)) ∷ []); elements = elements.functions (0 ∷ []) }

-- A passive segment with a reference to the function of this index.
abbrev pub later : ℕ → elements.ElementItem (List Plain)
later index = record { segment_mode = elements.passive; elements = elements.expressions FUNCREF ((row (RefFunc index) ∷ []) ∷ []) }

-- These bytes at offset 8 of memory 0.
abbrev pub bytes_at_8 : List ℕ → segments.DataItem
bytes_at_8 bytes = segments.active 0 (row (I32Const (pos 8)) ∷ []) bytes

-- A passive segment of three bytes.
abbrev pub bytes_later : segments.DataItem
bytes_later = segments.passive (1 ∷ 2 ∷ 3 ∷ [])

-- The sections before the segments: types, an import, a table and a memory.
abbrev pub empty_sections : List SectionDecoding
empty_sections = raw_decoding 1 one_type ∷ import_decoding (ready ∷ []) ∷ table_decoding (three_places ∷ []) ∷ memory_decoding (one_page ∷ []) ∷ []

-- The sections of the module, in order.
abbrev pub filled_sections : List ℕ → List SectionDecoding
filled_sections bytes =
    raw_decoding 1 one_type
    ∷ import_decoding (ready ∷ [])
    ∷ table_decoding (three_places ∷ [])
    ∷ memory_decoding (one_page ∷ [])
    ∷ element_decoding (ready_at_0 ∷ [])
    ∷ data_count_decoding 2
    ∷ data_decoding (bytes_at_8 bytes ∷ bytes_later ∷ [])
    ∷ []
