-- This file defines the module of eight sections.
use Rattle.std.specs.Prelude.{ℕ, List, [], ◌∷◌, ◌++◌, true, false, None, pos}
use Rattle.wasm_base.specs.Words.{SectionDecoding, raw_decoding}
use Rattle.wasm_base.specs.declared.types.ValType.TheVariants.{I32}
use Rattle.wasm_code.specs.Words.{Body, code_decoding}
use Rattle.wasm_insn.specs.declared.instruction.Instruction.TheVariants.{GlobalGet, GlobalSet, I32Const, Call, End}
use Rattle.wasm_sections.specs.Words.{ExportItem, export_decoding, GlobalItem, global_decoding, ImportItem, single, alike, import_decoding, function_decoding, start_decoding, memory_decoding}
use Rattle.wasm_sections.specs.declared.memory.MemoryType.{MemoryType}
use Rattle.wasm_sections.specs.declared.export.ExportKind.TheVariants.{Func, Memory}
use Rattle.wasm_sections.specs.declared.import.EntityType.TheVariants.{Function}
use Rattle.examples.specs.Bodies.{row, factorial_body}

-- The payload of a type section with two types: that of a function without parameters and results,
-- and that of one from an `i32` to an `i32`.
abbrev pub two_types : List ℕ
two_types = 0x02 ∷ 0x60 ∷ 0x00 ∷ 0x00 ∷ 0x60 ∷ 0x01 ∷ 0x7F ∷ 0x01 ∷ 0x7F ∷ []

-- The import of a function of this type index.
abbrev pub import_of_function : (from name : List ℕ) (index : ℕ) → ImportItem
import_of_function from name index = record { module_name = from; imported = single name (Function index) }

-- The import of functions of this type index, as one group.
abbrev pub import_of_functions : (from : List ℕ) (names : List (List ℕ)) (index : ℕ) → ImportItem
import_of_functions from names index = record { module_name = from; imported = alike (Function index) names }

-- The import of `ready` from `host`, a function of the first type.
abbrev pub ready : ImportItem
ready = import_of_function (104 ∷ 111 ∷ 115 ∷ 116 ∷ []) (114 ∷ 101 ∷ 97 ∷ 100 ∷ 121 ∷ []) 0

-- A memory of at least one page.
abbrev pub one_page : MemoryType
one_page = record { minimum = 1; maximum = None; memory64 = false; shared = false; page_size_log2 = None }

-- A mutable `i32` global with the initial value 5.
abbrev pub five : GlobalItem
five = record { global_type = record { val_type = I32; mutable = true; shared = false }; init = row (I32Const (pos 5)) ∷ [] }

-- The export of function 1 as `factorial`.
abbrev pub factorial_export : ExportItem
factorial_export = record { name = 102 ∷ 97 ∷ 99 ∷ 116 ∷ 111 ∷ 114 ∷ 105 ∷ 97 ∷ 108 ∷ []; kind = Func; index = 1 }

-- The export of the memory as `memory`.
abbrev pub memory_export : ExportItem
memory_export = record { name = 109 ∷ 101 ∷ 109 ∷ 111 ∷ 114 ∷ 121 ∷ []; kind = Memory; index = 0 }

-- The body of the start function.
abbrev pub start_body : Body
start_body = record { runs = []; code = row (GlobalGet 0) ∷ row (Call 1) ∷ row (GlobalSet 0) ∷ row (Call 0) ∷ row End ∷ [] }

-- The sections that declare types, imports and functions.
abbrev pub declared_sections : List SectionDecoding
declared_sections = raw_decoding 1 two_types ∷ import_decoding (ready ∷ []) ∷ function_decoding (1 ∷ 0 ∷ []) ∷ []

-- These sections, then those of memories, globals and exports.
abbrev pub stored_sections : List SectionDecoding
stored_sections = declared_sections ++ memory_decoding (one_page ∷ []) ∷ global_decoding (five ∷ []) ∷ export_decoding (factorial_export ∷ memory_export ∷ []) ∷ []

-- The sections of the module, in order.
abbrev pub whole_sections : List SectionDecoding
whole_sections =
    raw_decoding 1 two_types
    ∷ import_decoding (ready ∷ [])
    ∷ function_decoding (1 ∷ 0 ∷ [])
    ∷ memory_decoding (one_page ∷ [])
    ∷ global_decoding (five ∷ [])
    ∷ export_decoding (factorial_export ∷ memory_export ∷ [])
    ∷ start_decoding 2
    ∷ code_decoding (factorial_body 1 ∷ start_body ∷ [])
    ∷ []
