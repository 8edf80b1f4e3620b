-- This file defines global types and globals, their encodings and their formats. Core
-- specification, Binary Format, Types, Global Types, and Modules, Global Section.
use Rattle.std.specs.Prelude.{ℕ, ◌+◌, List, [], ◌∷◌, ◌++◌, Bool}
use Rattle.wasm_base.specs.Words.{Grammar, Kind, ContainsItems, Format, coded, mapped, pair, vec, Mode, minimal, padded, val_type, val_encoding, IsVal, SectionDecoding, decoding_of, number_of}
use Rattle.wasm_base.specs.Types.{val_encoding_in}
use Rattle.wasm_base.specs.declared.types.ValType.{ValType}
use Rattle.wasm_code.specs.Words.{expression, expression_encoding}
use Rattle.wasm_immediates.specs.Words.{where_set}
use Rattle.wasm_insn.specs.Words.{Plain}
use Rattle.wasm_sections.specs.Constants.{Stored, IsStoredIn, instructions_view}
use Rattle.wasm_sections.specs.declared.global.GlobalType.{GlobalType}
use Rattle.wasm_sections.specs.declared.global.GlobalFlags.{GlobalFlags as ReadFlags}
use Rattle.wasm_sections.specs.declared.global.GlobalItem.{GlobalItem as ReadGlobal}
use Rattle.wasm_base.specs.declared.section_id.SectionId.TheVariants as ids

-- The flags of a global type: mutable and shared. The core specification lacks the second, which
-- the shared-everything threads proposal adds.
pub record GlobalFlags : Type 0 where
  pub mutable : Bool
  pub shared : Bool

-- The byte of the flags.
abbrev pub global_code : GlobalFlags → ℕ
global_code f = where_set f.mutable 0x01 + where_set f.shared 0x02

-- The flags of a global type: mutable, shared.
abbrev pub global_flags : GlobalType → GlobalFlags
global_flags g = record { mutable = g.mutable; shared = g.shared }

-- The encoding of a global type: its value type, and the byte of its flags.
abbrev pub global_encoding : GlobalType → List ℕ
global_encoding g = val_encoding g.val_type ++ global_code (global_flags g) ∷ []

-- The minimal encoding of a global type in each grammar.
abbrev pub global_encoding_in : Grammar → GlobalType → List ℕ
global_encoding_in w g = val_encoding_in w g.val_type ++ global_code (global_flags g) ∷ []

-- The global type is well-formed: an index in its value type is below 2^32.
abbrev pub IsGlobal : GlobalType → Type 0
IsGlobal g = IsVal g.val_type

-- The global type of this value type and these flags.
abbrev pub global_of : ValType × GlobalFlags → GlobalType
global_of parts = record { val_type = parts.0; mutable = parts.1.mutable; shared = parts.1.shared }

-- A global type: a value type, and a byte of flags.
abbrev pub global_type : Format GlobalType
global_type = mapped global_of (pair val_type (coded global_code))

-- ---- globals

-- A global as an argument: its type, and the expression of its initial value.
pub record GivenGlobal : Type 0 where
  pub global_type : GlobalType
  pub init : Stored

-- A global: its type, and the instructions of its initial value.
pub record GlobalItem : Type 0 where
  pub global_type : GlobalType
  pub init : List Plain

-- The encoding of a global that is an argument: its type, and the expression of its initial value.
abbrev pub global_item_encoding : GivenGlobal → List ℕ
global_item_encoding g = global_encoding g.global_type ++ expression_encoding g.init.bytes

-- The global type is well-formed, and the bytes of the expression encode its instructions in this
-- mode.
pub record IsGivenGlobalIn (mode : Mode) (g : GivenGlobal) : Type 0 where
  pub global_type : IsGlobal g.global_type
  pub init : IsStoredIn mode g.init

-- The global is well-formed: its numbers are in range, and its expression is minimally encoded.
abbrev pub IsGivenGlobal : GivenGlobal → Type 0
IsGivenGlobal g = IsGivenGlobalIn minimal g

-- The global is well-formed, and its expression may be padded.
abbrev pub IsGivenGlobalPadded : GivenGlobal → Type 0
IsGivenGlobalPadded g = IsGivenGlobalIn padded g

-- The normal form: the same global, with the instructions of its expression.
abbrev pub global_item_of : GivenGlobal → GlobalItem
global_item_of g = record { global_type = g.global_type; init = g.init.instructions }

-- The global of this type and this initial value.
abbrev pub global_from : GlobalType × List Plain → GlobalItem
global_from parts = record { global_type = parts.0; init = parts.1 }

-- A global: a global type and an expression.
abbrev pub global_item : Format GlobalItem
global_item = mapped global_from (pair global_type expression)

-- The kind of globals.
abbrev pub global_items : Kind GivenGlobal GlobalItem
global_items = record { encoding = global_item_encoding; IsWellFormed = IsGivenGlobal; IsWellFormedPadded = IsGivenGlobalPadded; normal_form = global_item_of; format = global_item }

-- ---- decoded globals

-- The view of decoded flags.
abbrev pub global_flags_view : ReadFlags → GlobalFlags
global_flags_view f = record { mutable = f.mutable; shared = f.shared }

-- The view of a decoded global.
abbrev pub global_view : {A : Type 0} → ReadGlobal A → GlobalItem
global_view g = record { global_type = g.global_type; init = instructions_view g.init }

-- The pieces encode these globals.
abbrev pub ContainsGlobals : List (List ℕ) → List GlobalItem → Type 0
ContainsGlobals = ContainsItems global_items

-- The global section that decodes to these globals.
abbrev pub global_decoding : List GlobalItem → SectionDecoding
global_decoding globals = decoding_of (number_of ids.Global) (vec global_item) globals
