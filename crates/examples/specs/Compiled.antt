-- This file defines the module of compiled functions.
use Rattle.std.specs.Prelude.{List, [], ◌∷◌, pos, codes}
use Rattle.wasm_base.specs.Words.{SectionDecoding}
use Rattle.wasm_base.specs.declared.types.ValType.TheVariants.{I32}
use Rattle.wasm_code.specs.Words.{Body, code_decoding}
use Rattle.wasm_sections.specs.Words.{ExportItem, export_decoding, function_decoding}
use Rattle.wasm_sections.specs.declared.export.ExportKind.TheVariants.{Func}
use Rattle.wasm_types.specs.Words.{TypeItem, func, type_decoding, plain_type}
use Rattle.examples.specs.Adding.{adding_type}
use Rattle.examples.specs.Lowering.{body_of}
use Rattle.examples.specs.declared.lowering.Operator.TheVariants.{Add, Subtract, Multiply}
use Rattle.examples.specs.declared.lowering.Operation.{Operation}
use Rattle.examples.specs.declared.lowering.Operation.TheVariants.{Constant, Get, Set, Binary, IsZero, Block, Loop, Branch, BranchIf, Call, Return, End}

-- The type of a function of one number that returns one.
abbrev pub one_number : TypeItem
one_number = plain_type (func (I32 ∷ []) (I32 ∷ []))

-- The export of function 1 as `factorial`.
abbrev pub factorial_of : ExportItem
factorial_of = record { name = codes "factorial"; kind = Func; index = 1 }

-- The export of function 2 as `squares`.
abbrev pub squares_of : ExportItem
squares_of = record { name = codes "squares"; kind = Func; index = 2 }

-- The operations of the product of two parameters.
abbrev pub product_operations : List Operation
product_operations = Get 0 ∷ Get 1 ∷ Binary Multiply ∷ []

-- The operations of the product of the numbers from the parameter down to 1.
abbrev pub factorial_operations : List Operation
factorial_operations =
    Constant (pos 1) ∷
    Set 1 ∷
    Block ∷
    Loop ∷
    Get 0 ∷
    IsZero ∷
    BranchIf 1 ∷
    Get 1 ∷
    Get 0 ∷
    Call 0 ∷
    Set 1 ∷
    Get 0 ∷
    Constant (pos 1) ∷
    Binary Subtract ∷
    Set 0 ∷
    Branch 0 ∷
    End ∷
    End ∷
    Get 1 ∷
    Return ∷
    []

-- The operations of the sum of the squares from the parameter down to 1.
abbrev pub squares_operations : List Operation
squares_operations =
    Block ∷
    Loop ∷
    Get 0 ∷
    IsZero ∷
    BranchIf 1 ∷
    Get 1 ∷
    Get 0 ∷
    Get 0 ∷
    Call 0 ∷
    Binary Add ∷
    Set 1 ∷
    Get 0 ∷
    Constant (pos 1) ∷
    Binary Subtract ∷
    Set 0 ∷
    Branch 0 ∷
    End ∷
    End ∷
    Get 1 ∷
    []

-- The bodies, in order.
abbrev pub compiled_bodies : List Body
compiled_bodies = body_of 0 product_operations ∷ body_of 1 factorial_operations ∷ body_of 1 squares_operations ∷ []

-- The sections of the module, in order.
abbrev pub compiled_sections : List SectionDecoding
compiled_sections =
    type_decoding (adding_type ∷ one_number ∷ [])
    ∷ function_decoding (0 ∷ 1 ∷ 1 ∷ [])
    ∷ export_decoding (factorial_of ∷ squares_of ∷ [])
    ∷ code_decoding compiled_bodies
    ∷ []
