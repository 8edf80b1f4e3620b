-- This file defines the items of the module.
use Rattle.std.specs.Prelude.{List, [], ◌∷◌, codes}
use Rattle.std.specs.declared.alloc.Global.{Global}
use Rattle.dolzhytik.specs.base.Words.{SectionDecoding}
use Rattle.dolzhytik.specs.base.declared.types.ValType.TheVariants.{I32}
use Rattle.dolzhytik.specs.code.Words.{Body, code_decoding, normal_row}
use Rattle.dolzhytik.specs.insn.declared.instruction.Instruction.TheVariants.{LocalGet, Numeric, End}
use Rattle.dolzhytik.specs.insn.declared.numeric.Numeric.TheVariants.{I32Add}
use Rattle.dolzhytik.specs.sections.Words.{ExportItem, export_decoding, function_decoding}
use Rattle.dolzhytik.specs.sections.declared.export.ExportKind.TheVariants.{Func}
use Rattle.dolzhytik.specs.types.Words.{TypeItem, func, plain_type, type_decoding}

-- The body that returns the sum of its two parameters.
abbrev pub sum_body : Body
sum_body = record { runs = []; code = normal_row {A = Global} (LocalGet 0) ∷ normal_row {A = Global} (LocalGet 1) ∷ normal_row {A = Global} (Numeric I32Add) ∷ normal_row {A = Global} End ∷ [] }

-- The type of a function of two numbers that returns one.
abbrev pub add_type : TypeItem
add_type = plain_type (func (I32 ∷ I32 ∷ []) (I32 ∷ []))

-- The export of function 0 as `add`.
abbrev pub add_export : ExportItem
add_export = record { name = codes "add"; kind = Func; index = 0 }

-- The sections of the module, in order.
abbrev pub add_sections : List SectionDecoding
add_sections = type_decoding (add_type ∷ []) ∷ function_decoding (0 ∷ []) ∷ export_decoding (add_export ∷ []) ∷ code_decoding (sum_body ∷ []) ∷ []
