-- This file defines recipes: each line adds an entry to a section, and the sections make a module.
-- Definitions take the version of the recipe, 1 or 2.
use Rattle.std.specs.Prelude.{All, length, ℕ, suc, ℤ, pos, neg_ℤ, ◌-◌, ◌^◌, ◌==◌, ◌&&◌, ◌≤◌, ◌++◌, Bool, true, false, codes, if◌then◌else◌, nat_lt, List, [], ◌∷◌, filter, map, take, Option, Some}
use Rattle.std.specs.Prelude.{None, option_map, Result, Ok, Err, IsOk}
use Rattle.std.specs.List.{flat_map}
use Rattle.std.specs.declared.alloc.Global.{Global}
use Rattle.std.specs.Result.{result_unwrap_or}
use Rattle.std.specs.Str.{all_ascii_digits, bytes_eq}
use Rattle.std.specs.Str.Parse.{digits_value}
use Rattle.wasm_base.specs.Types.{EXTERNREF}
use Rattle.wasm_base.specs.Words.{unsigned_encoding, longest, size_prefixed_encoding, vec_encoding, val_encoding, FUNCREF, HasEncodableSize, module_encoding, joined, IsEncodableSection}
use Rattle.hex.specs.Hex.{decode_of}
use Rattle.wasm_base.specs.declared.types.ValType.{ValType}
use Rattle.wasm_base.specs.declared.types.ValType.TheVariants.{I32, I64, F32, F64, V128, Ref}
use Rattle.wasm_code.specs.Words.{expression_encoding}
use Rattle.wasm_custom.specs.Words.{IsEncodableNamed, subsection_encoding, name_name}
use Rattle.wasm_insn.specs.Words.{instruction_encoding}
use Rattle.wasm_insn.specs.declared.instruction.Instruction.TheVariants.{I32Const}
use Rattle.wasm_sections.specs.Imports.{entity_encoding}
use Rattle.wasm_sections.specs.Tables.{table_encoding}
use Rattle.wasm_sections.specs.Words.{active_encoding, kind_code, global_encoding, memory_encoding}
use Rattle.wasm_sections.specs.declared.export.ExportKind.{ExportKind}
use Rattle.wasm_sections.specs.declared.global.GlobalType.{GlobalType}
use Rattle.wasm_sections.specs.declared.import.EntityType.{EntityType}
use Rattle.wasm_sections.specs.declared.memory.MemoryType.{MemoryType}
use Rattle.wasm_sections.specs.declared.table.TableType.{TableType}
use Rattle.wasm_tool.specs.declared.fault.RecipeCause.{RecipeCause}
use Rattle.wasm_tool.specs.declared.fault.RecipeCause.TheVariants.{UnknownCommand, BadNumber, BadHex, MissingWord, SurplusWord, UnknownType}
use Rattle.wasm_tool.specs.declared.types.Limits.{Limits}
use Rattle.wasm_tool.specs.declared.version.Version.{Version}
use Rattle.wasm_tool.specs.declared.version.Version.TheVariants.{First, Second}
use Rattle.wasm_tool.specs.Lines.{is_word, counted_words, rest_of}
use Rattle.wasm_sections.specs.declared.export.ExportKind.TheVariants as kinds
use Rattle.wasm_sections.specs.declared.import.EntityType.TheVariants as entities

-- An encoded item, and the id of the section that it is added to.
pub record Addition : Type 0 where
  pub section : ℕ
  pub item : List ℕ

-- No section has this id. An item with it is a run of locals of the next body.
abbrev pub locals_id : ℕ
locals_id = 0x100

-- ---- words

-- Whether words are left over, which version 1 ignores.
abbrev pub is_surplus : Version → List (List ℕ) → Bool
is_surplus First more = false
is_surplus Second [] = false
is_surplus Second (word ∷ more) = true

-- The result of a command that has these words after the needed ones: `made`, or the error
-- `SurplusWord` if words are left over.
abbrev pub alone : {T : Type 0} → Version → List (List ℕ) → Result T RecipeCause → Result T RecipeCause
alone version more made = if is_surplus version more then Err SurplusWord else made

-- An optional word, which version 1 does not have.
abbrev pub optional_word : Version → List (List ℕ) → Option (List ℕ)
optional_word First words = None
optional_word Second [] = None
optional_word Second (word ∷ words) = Some word

-- The words after an optional word.
abbrev pub after_optional : Version → List (List ℕ) → List (List ℕ)
after_optional First words = words
after_optional Second [] = []
after_optional Second (word ∷ words) = words

-- The entry that the bytes of a hexadecimal word make, or the error `BadHex`.
abbrev pub from_hex : {E : Type 0} → Result (List ℕ) E → (List ℕ → Result (List Addition) RecipeCause) → Result (List Addition) RecipeCause
from_hex (Ok bytes) make = make bytes
from_hex (Err e) make = Err BadHex

-- The value that a number makes, or the error `BadNumber`.
abbrev pub from_number : {T S : Type 0} → Option T → (T → Result S RecipeCause) → Result S RecipeCause
from_number (Some n) make = make n
from_number None make = Err BadNumber

-- The value that a type makes, or the error `UnknownType`.
abbrev pub from_type : {S : Type 0} → Option ValType → (ValType → Result S RecipeCause) → Result S RecipeCause
from_type (Some ty) make = make ty
from_type None make = Err UnknownType

-- The value that parsed words make, or their error.
abbrev pub from_words : {T S : Type 0} → Result T RecipeCause → (T → Result S RecipeCause) → Result S RecipeCause
from_words (Ok value) make = make value
from_words (Err cause) make = Err cause

-- The value of a word of decimal digits.
abbrev pub value_of : List ℕ → Option ℕ
value_of word = if is_word word && all_ascii_digits word then Some (digits_value 10 word) else None

-- A value of at most this many bits.
abbrev pub below : ℕ → Option ℕ → Option ℕ
below bits None = None
below bits (Some n) = if nat_lt n (2 ^ bits) then Some n else None

-- The number of at most this many bits that a decimal word denotes.
abbrev pub decimal_of : ℕ → List ℕ → Option ℕ
decimal_of bits word = below bits (value_of word)

-- A value up to this bound.
abbrev pub at_most : ℕ → Option ℕ → Option ℕ
at_most most None = None
at_most most (Some n) = if nat_lt n (suc most) then Some n else None

-- The signed number of 32 bits that a decimal word denotes, which is negative after '-'.
abbrev pub signed_of : List ℕ → Option ℤ
signed_of [] = None
signed_of (c ∷ cs) = if c == 0x2D then option_map (λ n. neg_ℤ (pos n)) (at_most (2 ^ 31) (value_of cs)) else option_map pos (at_most (2 ^ 31 - 1) (value_of (c ∷ cs)))

-- A number before others, or none if one of them is missing.
abbrev pub one_more : Option ℕ → Option (List ℕ) → Option (List ℕ)
one_more (Some n) (Some ns) = Some (n ∷ ns)
one_more (Some n) None = None
one_more None ns = None

-- The numbers of 32 bits of these words, or none if a word is no such number.
abbrev pub indices_of : List (List ℕ) → Option (List ℕ)
indices_of [] = Some []
indices_of (word ∷ words) = one_more (decimal_of 32 word) (indices_of words)

-- ---- types

-- A value type, by its word.
abbrev pub val_type_of : List ℕ → Option ValType
val_type_of word =
    if bytes_eq word (codes "i32") then Some I32
    else if bytes_eq word (codes "i64") then Some I64
    else if bytes_eq word (codes "f32") then Some F32
    else if bytes_eq word (codes "f64") then Some F64
    else if bytes_eq word (codes "v128") then Some V128
    else if bytes_eq word (codes "funcref") then Some (Ref FUNCREF)
    else if bytes_eq word (codes "externref") then Some (Ref EXTERNREF)
    else None

-- The number of 64 bits of an optional word.
abbrev pub optional_decimal : Option (List ℕ) → Option (Option ℕ)
optional_decimal None = Some None
optional_decimal (Some word) = option_map Some (decimal_of 64 word)

-- The limits of a minimum and an optional maximum.
abbrev pub limits_from : Option ℕ → Option (Option ℕ) → Result Limits RecipeCause
limits_from minimum maximum = from_number minimum (λ least. from_number maximum (λ most. Ok (record { minimum = least; maximum = most })))

-- `MIN`, or `MIN [MAX]` in version 2.
abbrev pub limits_of : Version → List (List ℕ) → Result Limits RecipeCause
limits_of version [] = Err MissingWord
limits_of version (minimum ∷ more) =
    alone version (after_optional version more) (limits_from (decimal_of 64 minimum) (optional_decimal (optional_word version more)))

-- The memory type with these limits, of 32-bit addresses, unshared, with pages of the usual size.
abbrev pub memory_with : Limits → MemoryType
memory_with limits = record { minimum = limits.minimum; maximum = limits.maximum; memory64 = false; shared = false; page_size_log2 = None }

-- The type of a table of function references with these limits, of 32-bit indices, unshared.
abbrev pub table_with : Limits → TableType
table_with limits = record { element_type = FUNCREF; table64 = false; minimum = limits.minimum; maximum = limits.maximum; shared = false }

-- ---- lines

-- The one entry of a line.
abbrev pub adds : ℕ → List ℕ → Result (List Addition) RecipeCause
adds section item = Ok (record { section = section; item = item } ∷ [])

-- `type HEX`: an entry of the type section.
abbrev pub type_entry : Version → List (List ℕ) → Result (List Addition) RecipeCause
type_entry version [] = Err MissingWord
type_entry version (hex ∷ more) = alone version more (from_hex (decode_of hex) (λ bytes. adds 1 bytes))

-- `func N`: a function of this type index.
abbrev pub function_entry : Version → List (List ℕ) → Result (List Addition) RecipeCause
function_entry version [] = Err MissingWord
function_entry version (index ∷ more) = alone version more (from_number (decimal_of 32 index) (λ n. adds 3 (unsigned_encoding n)))

-- `memory MIN`: a memory with this minimum of pages. In version 2 a maximum may follow.
abbrev pub memory_entry : Version → List (List ℕ) → Result (List Addition) RecipeCause
memory_entry version words = from_words (limits_of version words) (λ limits. adds 5 (memory_encoding (memory_with limits)))

-- The stored bytes of an expression that computes this number.
abbrev pub constant_bytes : ℤ → List ℕ
constant_bytes z = instruction_encoding {A = Global} (I32Const z)

-- The type of an `i32` global that is not mutable.
abbrev pub constant_type : GlobalType
constant_type = record { val_type = I32; mutable = false; shared = false }

-- `global I`: a global with this value.
abbrev pub global_entry : Version → List (List ℕ) → Result (List Addition) RecipeCause
global_entry version [] = Err MissingWord
global_entry version (value ∷ more) =
    alone version more (from_number (signed_of value) (λ z. adds 6 (global_encoding constant_type ++ expression_encoding (constant_bytes z))))

-- The kind of an export, by its word.
abbrev pub export_kind_of : List ℕ → Option ExportKind
export_kind_of word =
    if bytes_eq word (codes "func") then Some kinds.Func
    else if bytes_eq word (codes "table") then Some kinds.Table
    else if bytes_eq word (codes "memory") then Some kinds.Memory
    else if bytes_eq word (codes "global") then Some kinds.Global
    else if bytes_eq word (codes "tag") then Some kinds.Tag
    else None

-- The entry that a kind makes, or the error `UnknownCommand`.
abbrev pub from_kind : Option ExportKind → (ExportKind → Result (List Addition) RecipeCause) → Result (List Addition) RecipeCause
from_kind (Some kind) make = make kind
from_kind None make = Err UnknownCommand

-- `export NAME KIND N`: an export.
abbrev pub export_entry : Version → List (List ℕ) → Result (List Addition) RecipeCause
export_entry version (name ∷ kind ∷ index ∷ more) =
    alone version more
    (from_kind (export_kind_of kind) (λ k. from_number (decimal_of 32 index) (λ n. adds 7 (size_prefixed_encoding name ++ (kind_code k ∷ [] ++ unsigned_encoding n)))))
export_entry version words = Err MissingWord

-- `start N`: the function that runs when the module is instantiated.
abbrev pub start_entry : Version → List (List ℕ) → Result (List Addition) RecipeCause
start_entry version [] = Err MissingWord
start_entry version (index ∷ more) = alone version more (from_number (decimal_of 32 index) (λ n. adds 8 (unsigned_encoding n)))

-- `body HEX`: the instructions of a function, in the code section.
abbrev pub body_entry : Version → List (List ℕ) → Result (List Addition) RecipeCause
body_entry version [] = Err MissingWord
body_entry version (hex ∷ more) = alone version more (from_hex (decode_of hex) (λ bytes. adds 10 bytes))

-- `data I HEX`: bytes at this offset of memory 0.
abbrev pub data_entry : Version → List (List ℕ) → Result (List Addition) RecipeCause
data_entry version (place ∷ hex ∷ more) =
    alone version more (from_number (signed_of place) (λ z. from_hex (decode_of hex) (λ bytes. adds 11 (active_encoding 0 (constant_bytes z) bytes))))
data_entry version words = Err MissingWord

-- `name TEXT`: the name of the module, which is the remainder of the line, in the name section.
abbrev pub name_entry : List ℕ → Result (List Addition) RecipeCause
name_entry [] = Err MissingWord
name_entry (b ∷ bs) = adds 0 (subsection_encoding 0 (size_prefixed_encoding (b ∷ bs)))

-- ---- lines of version 2 alone

-- `func N` of an import: a function of this type index.
abbrev pub imported_function : Version → List (List ℕ) → Result EntityType RecipeCause
imported_function version [] = Err MissingWord
imported_function version (index ∷ more) = alone version more (from_number (decimal_of 32 index) (λ n. Ok (entities.Function n)))

-- `TYPE` of an import of a global, after which these words are left.
abbrev pub global_of_type : Version → Bool → List ℕ → List (List ℕ) → Result EntityType RecipeCause
global_of_type version mutable word more =
    alone version more (from_type (val_type_of word) (λ ty. Ok (entities.Global (record { val_type = ty; mutable = mutable; shared = false }))))

-- `TYPE` after `mut`.
abbrev pub mutable_global : Version → List (List ℕ) → Result EntityType RecipeCause
mutable_global version [] = Err MissingWord
mutable_global version (word ∷ more) = global_of_type version true word more

-- `global TYPE` of an import, or `global mut TYPE`.
abbrev pub imported_global : Version → List (List ℕ) → Result EntityType RecipeCause
imported_global version [] = Err MissingWord
imported_global version (word ∷ more) = if bytes_eq word (codes "mut") then mutable_global version more else global_of_type version false word more

-- The entity of an import, by the word of its kind and the words after it.
abbrev pub entity_of : Version → List ℕ → List (List ℕ) → Result EntityType RecipeCause
entity_of version kind words =
    if bytes_eq kind (codes "func") then imported_function version words
    else if bytes_eq kind (codes "table") then from_words (limits_of version words) (λ limits. Ok (entities.Table (table_with limits)))
    else if bytes_eq kind (codes "memory") then from_words (limits_of version words) (λ limits. Ok (entities.Memory (memory_with limits)))
    else if bytes_eq kind (codes "global") then imported_global version words
    else Err UnknownCommand

-- `import MODULE NAME KIND ..`: an import.
abbrev pub import_entry : Version → List (List ℕ) → Result (List Addition) RecipeCause
import_entry version (from ∷ name ∷ kind ∷ words) =
    from_words (entity_of version kind words) (λ entity. adds 2 (size_prefixed_encoding from ++ (size_prefixed_encoding name ++ entity_encoding entity)))
import_entry version words = Err MissingWord

-- `table MIN [MAX]`: a table of function references.
abbrev pub table_entry : Version → List (List ℕ) → Result (List Addition) RecipeCause
table_entry version words = from_words (limits_of version words) (λ limits. adds 4 (table_encoding (table_with limits)))

-- The element segment of table 0 at this offset, of the functions of these indices: the flag 0, the
-- offset and the indices.
abbrev pub functions_encoding : ℤ → List ℕ → List ℕ
functions_encoding offset functions = 0x00 ∷ (expression_encoding (constant_bytes offset) ++ vec_encoding unsigned_encoding functions)

-- `elem I N..`: references to functions at this offset of table 0.
abbrev pub elem_entry : List (List ℕ) → Result (List Addition) RecipeCause
elem_entry (place ∷ first ∷ more) = from_number (signed_of place) (λ z. from_number (indices_of (first ∷ more)) (λ functions. adds 9 (functions_encoding z functions)))
elem_entry words = Err MissingWord

-- `locals N TYPE`: a run of locals of the next body.
abbrev pub locals_entry : Version → List (List ℕ) → Result (List Addition) RecipeCause
locals_entry version (count ∷ word ∷ more) =
    alone version more (from_number (decimal_of 32 count) (λ n. from_type (val_type_of word) (λ ty. adds locals_id (unsigned_encoding n ++ val_encoding ty))))
locals_entry version words = Err MissingWord

-- The commands that version 1 does not have.
abbrev pub second_entry : Version → List ℕ → List (List ℕ) → Result (List Addition) RecipeCause
second_entry First command words = Err UnknownCommand
second_entry Second command words =
    if bytes_eq command (codes "import") then import_entry Second words
    else if bytes_eq command (codes "table") then table_entry Second words
    else if bytes_eq command (codes "elem") then elem_entry words
    else if bytes_eq command (codes "locals") then locals_entry Second words
    else Err UnknownCommand

-- The entry of a line of these words, if it has any, or its error. The remainder of the line after
-- its first word is also an argument.
abbrev pub entry_of_words : Version → List (List ℕ) → List ℕ → Result (List Addition) RecipeCause
entry_of_words version [] rest = Ok []
entry_of_words version (command ∷ words) rest =
    if bytes_eq command (codes "type") then type_entry version words
    else if bytes_eq command (codes "func") then function_entry version words
    else if bytes_eq command (codes "memory") then memory_entry version words
    else if bytes_eq command (codes "global") then global_entry version words
    else if bytes_eq command (codes "export") then export_entry version words
    else if bytes_eq command (codes "start") then start_entry version words
    else if bytes_eq command (codes "body") then body_entry version words
    else if bytes_eq command (codes "data") then data_entry version words
    else if bytes_eq command (codes "name") then name_entry rest
    else second_entry version command words

-- The entry of a line, if it has any, or its error.
abbrev pub entry_of : Version → List ℕ → Result (List Addition) RecipeCause
entry_of version line = entry_of_words version (counted_words version line) (rest_of line)

-- The line has no error.
unfoldable pub IsGood : Version → List ℕ → Type 0
IsGood version line = IsOk (entry_of version line)

-- The entries of these lines.
abbrev pub entries_of : Version → List (List ℕ) → List Addition
entries_of version lines = flat_map (λ line. result_unwrap_or (entry_of version line) []) lines

-- ---- sections

-- The items that the entries add to a section.
abbrev pub added_to : ℕ → List Addition → List (List ℕ)
added_to id entries = map (λ entry. entry.item) (filter (λ entry. entry.section == id) entries)

-- A function's body of these runs of locals and instructions: its size, the runs and the
-- instructions.
abbrev pub body_encoding : List (List ℕ) → List ℕ → List ℕ
body_encoding runs instructions = size_prefixed_encoding ((unsigned_encoding (length runs) ++ joined runs) ++ instructions)

-- The bodies of these entries: each has the runs of locals since the body before it. The first body
-- also has these runs.
abbrev pub bodies_of : List (List ℕ) → List Addition → List (List ℕ)
bodies_of runs [] = []
bodies_of runs (entry ∷ entries) =
    if entry.section == 10 then body_encoding runs entry.item ∷ bodies_of [] entries
    else if entry.section == locals_id then bodies_of (runs ++ entry.item ∷ []) entries
    else bodies_of runs entries

-- The runs of locals after the last body.
abbrev pub left_locals : List (List ℕ) → List Addition → List (List ℕ)
left_locals runs [] = runs
left_locals runs (entry ∷ entries) =
    if entry.section == 10 then left_locals [] entries
    else if entry.section == locals_id then left_locals (runs ++ entry.item ∷ []) entries
    else left_locals runs entries

-- A section of these items, as id and payload, unless there are no items.
abbrev pub section_of : ℕ → List (List ℕ) → List (ℕ × List ℕ)
section_of id [] = []
section_of id (item ∷ items) = (id, unsigned_encoding (length (item ∷ items)) ++ joined (item ∷ items)) ∷ []

-- The last of these items alone: a later `start` replaces an earlier one.
abbrev pub last_of : List (List ℕ) → List (List ℕ)
last_of [] = []
last_of (item ∷ []) = item ∷ []
last_of (item ∷ next ∷ items) = last_of (next ∷ items)

-- The start section, whose payload is the last item.
abbrev pub start_of : List (List ℕ) → List (ℕ × List ℕ)
start_of items = map (λ item. (8, item)) (last_of items)

-- The name section of these subsections, as id and payload, unless there are none.
abbrev pub names_of : List (List ℕ) → List (ℕ × List ℕ)
names_of [] = []
names_of (item ∷ items) = (0, size_prefixed_encoding name_name ++ joined (item ∷ items)) ∷ []

-- The subsections and the size of a name section are at most 2^32 - 1.
pub record AreEncodableNames (items : List (List ℕ)) : Type 0 where
  pub count : length items ≤ longest
  pub size : IsEncodableNamed name_name (joined items)

-- The sections of these items, in the order of the standard, then the name section.
abbrev pub in_order : (types imports functions tables memories globals exports start elements code segments names : List (List ℕ)) → List (ℕ × List ℕ)
in_order types imports functions tables memories globals exports start elements code segments names =
    ((((((((((section_of 1 types ++ section_of 2 imports) ++ section_of 3 functions) ++ section_of 4 tables) ++ section_of 5 memories) ++ section_of 6 globals) ++ section_of 7 exports) ++ start_of start)
    ++ section_of 9 elements) ++ section_of 10 code) ++ section_of 11 segments) ++ names_of names

-- The sections of these entries.
abbrev pub sections_of : List Addition → List (ℕ × List ℕ)
sections_of entries =
    in_order (added_to 1 entries) (added_to 2 entries) (added_to 3 entries) (added_to 4 entries) (added_to 5 entries) (added_to 6 entries) (added_to 7 entries) (added_to 8 entries) (added_to 9 entries) (bodies_of [] entries) (added_to 11 entries) (added_to 0 entries)

-- The module of these entries.
unfoldable pub recipe_module : List Addition → List ℕ
recipe_module entries = module_encoding (sections_of entries)

-- Every count and size that the module needs is at most 2^32 - 1.
pub record IsEncodableRecipe (entries : List Addition) : Type 0 where
  pub types : IsEncodableSection (added_to 1 entries)
  pub imports : IsEncodableSection (added_to 2 entries)
  pub functions : IsEncodableSection (added_to 3 entries)
  pub tables : IsEncodableSection (added_to 4 entries)
  pub memories : IsEncodableSection (added_to 5 entries)
  pub globals : IsEncodableSection (added_to 6 entries)
  pub exports : IsEncodableSection (added_to 7 entries)
  pub start : All HasEncodableSize (last_of (added_to 8 entries))
  pub elements : IsEncodableSection (added_to 9 entries)
  pub locals : length (left_locals [] entries) ≤ longest
  pub code : IsEncodableSection (bodies_of [] entries)
  pub segments : IsEncodableSection (added_to 11 entries)
  pub names : AreEncodableNames (added_to 0 entries)

-- ---- the lines of an error, which names a line counted from 1, or 0 for all lines

-- The lines up to that line.
abbrev pub lines_through : ℕ → List (List ℕ) → List (List ℕ)
lines_through line lines = if line == 0 then lines else take line lines

-- The lines before that line.
abbrev pub lines_before : ℕ → List (List ℕ) → List (List ℕ)
lines_before line lines = if line == 0 then lines else take (line - 1) lines
