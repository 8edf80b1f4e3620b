-- This file defines the function section and the start section. Core specification, Binary Format,
-- Modules, Function Section and Start Section.
use Rattle.std.specs.Prelude.{ℕ, List}
use Rattle.wasm_base.specs.Words.{Kind, ContainsItems, u32, vec, IsUnsignedInRange, unsigned_encoding, SectionDecoding, decoding_of, number_of}
use Rattle.wasm_base.specs.declared.section_id.SectionId.TheVariants as ids

-- The kind of type indices, one for each function.
abbrev pub function_items : Kind ℕ ℕ
function_items = record { encoding = unsigned_encoding; IsWellFormed = IsUnsignedInRange 32; IsWellFormedPadded = IsUnsignedInRange 32; normal_form = λ index. index; format = u32 }

-- The pieces encode these type indices, one for each function.
abbrev pub ContainsFunctions : List (List ℕ) → List ℕ → Type 0
ContainsFunctions = ContainsItems function_items

-- The function section that decodes to these type indices.
abbrev pub function_decoding : List ℕ → SectionDecoding
function_decoding types = decoding_of (number_of ids.Function) (vec u32) types

-- The start section that decodes to this function index.
abbrev pub start_decoding : ℕ → SectionDecoding
start_decoding index = decoding_of (number_of ids.Start) u32 index
