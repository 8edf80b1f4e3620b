-- This file defines the module of a function that adds two numbers.
use Rattle.std.specs.Prelude.{List, [], ◌∷◌}
use Rattle.std.specs.declared.alloc.Global.{Global}
use Rattle.wasm_base.specs.Words.{SectionDecoding}
use Rattle.wasm_base.specs.declared.types.ValType.TheVariants.{I32}
use Rattle.wasm_code.specs.Words.{Body, code_decoding, normal_row}
use Rattle.wasm_insn.specs.declared.instruction.Instruction.TheVariants.{LocalGet, Numeric, End}
use Rattle.wasm_insn.specs.declared.numeric.Numeric.TheVariants.{I32Add}
use Rattle.wasm_sections.specs.Words.{ExportItem, export_decoding, function_decoding}
use Rattle.wasm_sections.specs.declared.export.ExportKind.TheVariants.{Func}
use Rattle.wasm_types.specs.Words.{TypeItem, func, type_decoding, plain_type}

-- The type of a function of two numbers that returns one.
abbrev pub adding_type : TypeItem
adding_type = plain_type (func (I32 ∷ I32 ∷ []) (I32 ∷ []))

-- The export of function 0 as `add`.
abbrev pub add_export : ExportItem
add_export = record { name = 97 ∷ 100 ∷ 100 ∷ []; kind = Func; index = 0 }

-- The body that returns the sum of its two parameters.
abbrev pub adding_body : Body
adding_body = record { runs = []; code = normal_row {A = Global} (LocalGet 0) ∷ normal_row {A = Global} (LocalGet 1) ∷ normal_row {A = Global} (Numeric I32Add) ∷ normal_row {A = Global} End ∷ [] }

-- The sections of the module, in order.
abbrev pub adding_sections : List SectionDecoding
adding_sections = type_decoding (adding_type ∷ []) ∷ function_decoding (0 ∷ []) ∷ export_decoding (add_export ∷ []) ∷ code_decoding (adding_body ∷ []) ∷ []
