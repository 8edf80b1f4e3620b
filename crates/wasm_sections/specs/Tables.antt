-- This file defines table types and tables, their encodings and their formats. Core specification,
-- Binary Format, Types, Table Types, and Modules, Table Section.
use Rattle.std.specs.Prelude.{ℕ, ◌^◌, ◌<◌, List, [], ◌∷◌, ◌++◌, Bool, true, false, Option, Some, None, IfSome, option_map}
use Rattle.wasm_base.specs.Words.{Grammar, Kind, ContainsItems, Format, u64, impossible, mapped, tagged, pair, optional, when, one_of, prefixed, is_given, vec, Mode, minimal, padded, unsigned_encoding}
use Rattle.wasm_base.specs.Words.{optional_encoding, ref_type, ref_encoding, IsRef, SectionDecoding, decoding_of, number_of}
use Rattle.wasm_base.specs.Types.{ref_encoding_in}
use Rattle.wasm_base.specs.declared.types.RefType.{RefType}
use Rattle.wasm_base.specs.declared.types.ValType.{ValType}
use Rattle.wasm_base.specs.declared.types.ValType.TheVariants.{I32, I64}
use Rattle.wasm_code.specs.Words.{expression, expression_encoding}
use Rattle.wasm_insn.specs.Words.{Plain}
use Rattle.wasm_sections.specs.Constants.{Stored, IsStoredIn, instructions_view}
use Rattle.wasm_sections.specs.Flags.{Flags, flags, flags_code}
use Rattle.wasm_sections.specs.declared.table.TableType.{TableType}
use Rattle.wasm_sections.specs.declared.table.Limits.{Limits as DecodeLimits}
use Rattle.wasm_sections.specs.declared.table.TableItem.{TableItem as ReadTable}
use Rattle.wasm_base.specs.declared.section_id.SectionId.TheVariants as ids

-- The flags of a table type, which has no page size.
abbrev pub table_flags : TableType → Flags
table_flags t = record { has_maximum = is_given t.maximum; shared = t.shared; is_64 = t.table64; has_page_size = false }

-- The encoding of a table type: the type of its elements, flags, the minimum, and the maximum if it
-- is given.
abbrev pub table_encoding : TableType → List ℕ
table_encoding t = ref_encoding t.element_type ++ (flags_code (table_flags t) ∷ (unsigned_encoding t.minimum ++ optional_encoding unsigned_encoding t.maximum))

-- The minimal encoding of a table type in each grammar.
abbrev pub table_encoding_in : Grammar → TableType → List ℕ
table_encoding_in w t = ref_encoding_in w t.element_type ++ (flags_code (table_flags t) ∷ (unsigned_encoding t.minimum ++ optional_encoding unsigned_encoding t.maximum))

-- The table type is well-formed: its numbers are in range.
pub record IsTable (t : TableType) : Type 0 where
  pub element_type : IsRef t.element_type
  pub minimum : t.minimum < 2 ^ 64
  pub maximum : IfSome t.maximum (λ n. n < 2 ^ 64)

-- The limits of a table: its type without the type of its elements.
pub record Limits : Type 0 where
  pub table64 : Bool
  pub shared : Bool
  pub minimum : ℕ
  pub maximum : Option ℕ

-- The limits of these flags, a minimum and an optional maximum.
abbrev pub limits_of : Flags → ℕ × Option ℕ → Limits
limits_of f parts = record { table64 = f.is_64; shared = f.shared; minimum = parts.0; maximum = parts.1 }

-- The bytes after these flags: the minimum, and the maximum if the flags say so. A flag for the
-- page size does not decode.
abbrev pub after_limits_flags : Flags → Format Limits
after_limits_flags f = when f.has_page_size impossible (mapped (limits_of f) (pair u64 (optional f.has_maximum u64)))

-- Limits: flags, the minimum, and the maximum if the flags say so.
abbrev pub limits : Format Limits
limits = tagged flags after_limits_flags

-- The table type of this element type and these limits.
abbrev pub table_of : RefType × Limits → TableType
table_of parts = record { element_type = parts.0; table64 = parts.1.table64; minimum = parts.1.minimum; maximum = parts.1.maximum; shared = parts.1.shared }

-- A table type: the type of its elements, and limits.
abbrev pub table_type : Format TableType
table_type = mapped table_of (pair ref_type limits)

-- The type of a table index.
abbrev pub index_type_of : (table64 : Bool) → ValType
index_type_of true = I64
index_type_of false = I32

-- ---- tables

-- A table as an argument: its type, and the expression of its elements' initial value, if any.
pub record GivenTable : Type 0 where
  pub table_type : TableType
  pub init : Option Stored

-- A table: its type, and the instructions of its elements' initial value, if any.
pub record TableItem : Type 0 where
  pub table_type : TableType
  pub init : Option (List Plain)

-- The bytes before a table with an initial value. No table type begins with them.
abbrev pub before_init : List ℕ
before_init = 0x40 ∷ 0x00 ∷ []

-- The encoding of a table: its type; or with an initial value, 40 00, its type and the expression.
abbrev pub table_init_encoding : TableType → Option Stored → List ℕ
table_init_encoding t None = table_encoding t
table_init_encoding t (Some e) = before_init ++ (table_encoding t ++ expression_encoding e.bytes)

-- The encoding of a table that is an argument.
abbrev pub table_item_encoding : GivenTable → List ℕ
table_item_encoding t = table_init_encoding t.table_type t.init

-- The table type is well-formed, and the bytes of the expression, if any, encode its instructions
-- in this mode.
pub record IsGivenTableIn (mode : Mode) (t : GivenTable) : Type 0 where
  pub table_type : IsTable t.table_type
  pub init : IfSome t.init (IsStoredIn mode)

-- The table is well-formed: its numbers are in range, and its expression is minimally encoded.
abbrev pub IsGivenTable : GivenTable → Type 0
IsGivenTable t = IsGivenTableIn minimal t

-- The table is well-formed, and its expression may be padded.
abbrev pub IsGivenTablePadded : GivenTable → Type 0
IsGivenTablePadded t = IsGivenTableIn padded t

-- The instructions of an optional initial value.
abbrev pub init_of : Option Stored → Option (List Plain)
init_of None = None
init_of (Some e) = Some e.instructions

-- The normal form: the same table, with the instructions of its expression, if any.
abbrev pub table_item_of : GivenTable → TableItem
table_item_of t = record { table_type = t.table_type; init = init_of t.init }

-- The table of this type without an initial value.
abbrev pub without_init : TableType → TableItem
without_init t = record { table_type = t; init = None }

-- The table of this type with this initial value.
abbrev pub with_init : TableType × List Plain → TableItem
with_init parts = record { table_type = parts.0; init = Some parts.1 }

-- A table: its type; or 40 00, its type and an expression.
abbrev pub table_item : Format TableItem
table_item = one_of (mapped without_init table_type) (mapped with_init (prefixed before_init (pair table_type expression)))

-- The kind of tables.
abbrev pub table_items : Kind GivenTable TableItem
table_items = record { encoding = table_item_encoding; IsWellFormed = IsGivenTable; IsWellFormedPadded = IsGivenTablePadded; normal_form = table_item_of; format = table_item }

-- ---- decoded tables

-- The view of decoded limits.
abbrev pub limits_view : DecodeLimits → Limits
limits_view l = record { table64 = l.table64; shared = l.shared; minimum = l.minimum; maximum = l.maximum }

-- The view of a decoded table.
abbrev pub table_view : {A : Type 0} → ReadTable A → TableItem
table_view t = record { table_type = t.table_type; init = option_map instructions_view t.init }

-- The pieces encode these tables.
abbrev pub ContainsTables : List (List ℕ) → List TableItem → Type 0
ContainsTables = ContainsItems table_items

-- The table section that decodes to these tables.
abbrev pub table_decoding : List TableItem → SectionDecoding
table_decoding tables = decoding_of (number_of ids.Table) (vec table_item) tables
