-- This file defines the module for a linker.
use Rattle.std.specs.Prelude.{List, [], ◌∷◌, Some, None, pos, codes}
use Rattle.wasm_base.specs.Words.{SectionDecoding}
use Rattle.wasm_base.specs.declared.types.ValType.TheVariants.{I32}
use Rattle.wasm_code.specs.Words.{Body, code_decoding}
use Rattle.wasm_custom.specs.Words.{Hints, hints_decoding, LinkItem, Symbols, linking_decoding, Field, producers_decoding, Symbol, indexed}
use Rattle.wasm_immediates.specs.declared.block_type.BlockType.TheVariants.{Empty}
use Rattle.wasm_immediates.specs.declared.memory.MemArg.{MemArg}
use Rattle.wasm_immediates.specs.declared.memory.MemArgTarget.TheVariants.{Memory}
use Rattle.wasm_insn.specs.declared.instruction.Instruction.TheVariants.{Block, LocalGet, I32Load, I32Store, Numeric, BrIf, I32Const, End}
use Rattle.wasm_insn.specs.declared.numeric.Numeric.TheVariants.{I32Eqz, I32Sub}
use Rattle.wasm_sections.specs.Words.{function_decoding, memory_decoding}
use Rattle.wasm_types.specs.Words.{TypeItem, func, type_decoding, plain_type}
use Rattle.examples.specs.Bodies.{row}
use Rattle.examples.specs.Whole.{one_page}
use Rattle.wasm_custom.specs.declared.symbols.SymbolKind.TheVariants as kinds

-- The type of a function of an address that returns nothing.
abbrev pub address_type : TypeItem
address_type = plain_type (func (I32 ∷ []) [])

-- The memory argument of a 32-bit number 8 bytes after an address.
abbrev pub number_at : MemArg
number_at = record { offset = 8; align = 2; target = Memory 0; ordering = None }

-- The body that decrements that number, unless it is 0.
abbrev pub count_down_body : Body
count_down_body = record {
  runs = [];
  code =
      row (Block Empty) ∷
      row (LocalGet 0) ∷
      row (I32Load number_at) ∷
      row (Numeric I32Eqz) ∷
      row (BrIf 0) ∷
      row (LocalGet 0) ∷
      row (LocalGet 0) ∷
      row (I32Load number_at) ∷
      row (I32Const (pos 1)) ∷
      row (Numeric I32Sub) ∷
      row (I32Store number_at) ∷
      row End ∷
      row End ∷
      [];
}

-- The hint that the branch at offset 9 of function 0's raw body is unlikely.
abbrev pub unlikely_hints : List Hints
unlikely_hints = (0, record { branch_func_offset = 9; branch_hint_value = 0 } ∷ []) ∷ []

-- The symbol of function 0 as `count_down`, which the linked module exports.
abbrev pub count_down_symbol : Symbol
count_down_symbol = indexed kinds.Function 0x20 0 (Some (codes "count_down"))

-- The linking subsection with a symbol table of this symbol.
abbrev pub links : List LinkItem
links = Symbols (count_down_symbol ∷ []) ∷ []

-- The producers field "processed-by" with version 0.1.0 of `dolzhytik`.
abbrev pub producers_fields : List Field
producers_fields = (codes "processed-by", (codes "dolzhytik", codes "0.1.0") ∷ []) ∷ []

-- The sections of types, functions and memories.
abbrev pub object_types : List SectionDecoding
object_types = type_decoding (address_type ∷ []) ∷ function_decoding (0 ∷ []) ∷ memory_decoding (one_page ∷ []) ∷ []

-- The sections of the module, in order.
abbrev pub object_sections : List SectionDecoding
object_sections =
    type_decoding (address_type ∷ [])
    ∷ function_decoding (0 ∷ [])
    ∷ memory_decoding (one_page ∷ [])
    ∷ hints_decoding unlikely_hints
    ∷ code_decoding (count_down_body ∷ [])
    ∷ linking_decoding links
    ∷ producers_decoding producers_fields
    ∷ []
