-- This file defines a module whose functions count their calls: each function that the module
-- defines has a counter, to which it adds 1 before its own instructions.
use Rattle.std.specs.Prelude.{◌≡◌, ◌≢◌, ℕ, zero, suc, ◌+◌, ◌<◌, ◌≤◌, ◌^◌, List, [], ◌∷◌, ◌++◌, length, nat_eq, ◌||◌, replicate, codes, decimal, flat_map, pos, Bool, true, false, ◌==◌}
use Rattle.std.specs.Prelude.{if◌then◌else◌, Some, ⊤}
use Rattle.std.specs.List.{AllByRecursion, starts_with}
use Rattle.std.specs.declared.alloc.Global.{Global}
use Rattle.wasm_base.specs.Words.{Format, header, Decodes, padded, standard, name, vec, size_prefixed, wasm_module, number_of}
use Rattle.wasm_base.specs.declared.fault.ReadFault.TheVariants.{Memory}
use Rattle.wasm_base.specs.declared.section_id.SectionId.TheVariants as ids
use Rattle.wasm_base.specs.declared.types.ValType.TheVariants.{I32}
use Rattle.wasm_code.specs.Words.{Body, body, normal_row}
use Rattle.wasm_insn.specs.Words.{Plain}
use Rattle.wasm_insn.specs.declared.instruction.Instruction.TheVariants.{GlobalGet, GlobalSet, I32Const, Numeric}
use Rattle.wasm_insn.specs.declared.numeric.Numeric.TheVariants.{I32Add}
use Rattle.wasm_reader.specs.Iterating.{Located}
use Rattle.wasm_reader.specs.Outlines.{Section, bytes_of}
use Rattle.wasm_reader.specs.Shortening.{contains_offsets}
use Rattle.wasm_remap.specs.Begun.{InsertsCode}
use Rattle.wasm_remap.specs.Errors.{HasSection}
use Rattle.wasm_remap.specs.Imported.{imported}
use Rattle.wasm_remap.specs.Inserted.{GainsMembers, InsertsSection}
use Rattle.wasm_remap.specs.Places.{copied}
use Rattle.wasm_remap.specs.declared.indexed.RemapError.{RemapError}
use Rattle.wasm_remap.specs.declared.indexed.RemapError.TheVariants as edits
use Rattle.wasm_remap.specs.declared.insert.Position.TheVariants.{Last}
use Rattle.wasm_remap.specs.declared.shift.IndexTooLarge.{IndexTooLarge}
use Rattle.wasm_remap.specs.declared.spaces.IndexSpace.TheVariants.{Functions, Globals}
use Rattle.wasm_sections.specs.Words.{ExportItem, export, GlobalItem, global_item, ImportItem, import_format}
use Rattle.wasm_sections.specs.declared.export.ExportKind.TheVariants as exported
use Rattle.examples.specs.declared.coverage.CoverageError.{CoverageError}
use Rattle.examples.specs.declared.coverage.CoverageError.TheVariants as errors
use Rattle.examples.specs.declared.coverage.numbers.Numbers.{Numbers}

-- ---- counters

-- The instructions that add 1 to this counter.
abbrev pub counting : ℕ → List Plain
counting index =
    normal_row {A = Global} (GlobalGet index) ∷ normal_row {A = Global} (I32Const (pos 1)) ∷ normal_row {A = Global} (Numeric I32Add) ∷ normal_row {A = Global} (GlobalSet index)
    ∷ []

-- A counter: a mutable global of 32 bits, initially 0.
abbrev pub counter : GlobalItem
counter = record { global_type = record { val_type = I32; mutable = true; shared = false }; init = normal_row {A = Global} (I32Const (pos 0)) ∷ [] }

-- The export of a counter as `coverage.N`, where N is the index of its function.
abbrev pub counter_export : (function index : ℕ) → ExportItem
counter_export function index = record { name = codes "coverage." ++ decimal function; kind = exported.Global; index = index }

-- The exports of this many counters, for this function and those after it.
abbrev pub counter_exports : (function index number : ℕ) → List ExportItem
counter_exports function index zero = []
counter_exports function index (suc number) = counter_exports function index number ++ counter_export (function + number) (index + number) ∷ []

-- Whether the name of an export begins with the prefix of counters' names.
abbrev pub names_counter : ExportItem → Bool
names_counter e = starts_with nat_eq e.name (codes "coverage.")

-- Whether the name of any of the exports begins with that prefix.
abbrev pub has_counter : List ExportItem → Bool
has_counter [] = false
has_counter (e ∷ exports) = names_counter e || has_counter exports

-- ---- items

-- The payloads of the sections of this id. A section is its id and its payload.
abbrev pub payloads_of : ℕ → List (ℕ × List ℕ) → List (List ℕ)
payloads_of id [] = []
payloads_of id (s ∷ sections) = if s.0 == id then s.1 ∷ payloads_of id sections else payloads_of id sections

-- The payloads decode to these items, those of one payload after those of another.
abbrev pub DecodeTo : {X : Type 0} → Format X → List (List ℕ) → List X → Type 0
DecodeTo F [] items = items ≡ []
DecodeTo {X} F (payload ∷ payloads) items = (first more : List X) × (items ≡ first ++ more) × vec F standard payload first × DecodeTo F payloads more

-- The items of a module that bear on its counters.
pub record Items : Type 0 where
  pub imports : List ImportItem
  pub globals : List GlobalItem
  pub exports : List ExportItem
  pub bodies : List Body

-- The sections of imports, globals, exports and code decode to these items. Other sections have any
-- payload.
pub record HasItems (sections : List (ℕ × List ℕ)) (items : Items) : Type 0 where
  pub imports : DecodeTo import_format (payloads_of (number_of ids.Import) sections) items.imports
  pub globals : DecodeTo global_item (payloads_of (number_of ids.Global) sections) items.globals
  pub exports : DecodeTo export (payloads_of (number_of ids.Export) sections) items.exports
  pub bodies : DecodeTo (size_prefixed body) (payloads_of (number_of ids.Code) sections) items.bodies

-- The index of the first function that the module defines: it follows the imported functions.
abbrev pub first_function : Items → ℕ
first_function items = imported Functions items.imports

-- The index of the first counter: it follows the imported globals and those of the module.
abbrev pub first_counter : Items → ℕ
first_counter items = imported Globals items.imports + length items.globals

-- ---- modules

-- The section is no custom section that holds offsets into the code, by its name.
abbrev pub HoldsNoOffsets : ℕ × List ℕ → Type 0
HoldsNoOffsets s = (n rest : List ℕ) → s.0 ≡ number_of ids.Custom → Decodes name padded s.1 n rest → contains_offsets (Some n) ≡ false

-- The bytes are a module whose sections of imports, globals, exports and code decode.
pub record IsDecodable (bytes : List ℕ) : Type 0 where
  pub sections : List (ℕ × List ℕ)
  pub read : wasm_module padded bytes sections
  pub items : Items
  pub has_items : HasItems sections items

-- The bytes are a module that can be covered. It has less than 256 MiB, no custom section that holds
-- offsets into the code, and no export whose name begins with the prefix of counters' names.
pub record IsCoverable (bytes : List ℕ) : Type 0 where
  pub short : length bytes < 2 ^ 28
  pub decodable : IsDecodable bytes
  pub no_offsets : AllByRecursion HoldsNoOffsets decodable.sections
  pub new_names : has_counter decodable.items.exports ≡ false

-- The new bytes are the same module with these members behind its own: in its first section of this
-- id, or in a new section at the place of the standard's order.
pub record GainsAtEnd {X : Type 0} (id : ℕ) (F : Format X) (xs : List X) (bytes new : List ℕ) : Type 0 where
  pub payload : List ℕ
  pub decodes : vec F standard payload xs
  pub inserts : InsertsSection Last id payload bytes new
  pub gains : GainsMembers Last id F xs bytes new

-- The new bytes are the same module with a counter for each body, the exports of the counters, and
-- bodies that count.
pub record IsCovered (bytes new : List ℕ) : Type 0 where
  pub old : IsCoverable bytes
  pub with_globals : List ℕ
  pub globals : GainsAtEnd (number_of ids.Global) global_item (replicate (length old.decodable.items.bodies) counter) bytes with_globals
  pub with_exports : List ℕ
  pub exports : GainsAtEnd (number_of ids.Export) export (counter_exports (first_function old.decodable.items) (first_counter old.decodable.items) (length old.decodable.items.bodies)) with_globals with_exports
  pub bodies : InsertsCode (λ i. counting (first_counter old.decodable.items + i)) with_exports new

-- ---- errors

-- The error says that the module cannot be covered, and no decoder returned it.
abbrev pub IsUnfit : CoverageError → Type 0
IsUnfit (errors.Read e) = ⊥
IsUnfit e = ⊤

-- An allocation failed.
abbrev pub IsMemory : CoverageError → Type 0
IsMemory (errors.Read e) = e.cause ≡ Memory
IsMemory e = ⊥

-- The error for that of an edit: the same one of the reader, or that an allocation failed.
abbrev pub IsErrorOf : RemapError IndexTooLarge → CoverageError → Type 0
IsErrorOf (edits.Read e) covered = covered ≡ errors.Read e
IsErrorOf e covered = IsMemory covered

-- The module has this section at this offset. The bytes after it may be no sections.
pub record IsAt (offset : ℕ) (bytes : List ℕ) (s : Section) : Type 0 where
  pub has : HasSection bytes s
  pub at : offset ≡ length header + length (flat_map bytes_of has.before)

-- The section is of exports, and the name of one begins with the prefix of counters' names.
abbrev pub IsTaken : Section → Type 0
IsTaken s = (s.id ≡ number_of ids.Export) × (exports : List ExportItem) × vec export standard s.payload exports × (has_counter exports ≡ true)

-- Why a module is not covered. Nothing is said of a failed allocation.
abbrev pub Explains : List ℕ → CoverageError → Type 0
Explains bytes (errors.Read e) = e.cause ≢ Memory → IsDecodable bytes → ⊥
Explains bytes (errors.Offsets offset) = (s : Section) × IsAt offset bytes s × (contains_offsets s.name ≡ true)
Explains bytes (errors.Taken offset) = (s : Section) × IsAt offset bytes s × IsTaken s
Explains bytes errors.TooLong = 2 ^ 28 ≤ length bytes

-- ---- calls

-- The numbers of a module of these sections, if nothing keeps it from being covered.
pub record AreNumbers (sections : List (ℕ × List ℕ)) (n : Numbers) : Type 0 where
  pub items : Items
  pub has_items : HasItems sections items
  pub no_offsets : AllByRecursion HoldsNoOffsets sections
  pub new_names : has_counter items.exports ≡ false
  pub function : n.function ≡ first_function items
  pub counter : n.counter ≡ first_counter items
  pub bodies : n.bodies ≡ length items.bodies

-- The numbers of a module that can be covered.
pub record HasNumbers (bytes : List ℕ) (n : Numbers) : Type 0 where
  pub short : length bytes < 2 ^ 28
  pub sections : List (ℕ × List ℕ)
  pub read : wasm_module padded bytes sections
  pub numbers : AreNumbers sections n

-- The sums of two modules' numbers.
pub record IsSum (a b sum : Numbers) : Type 0 where
  pub function : sum.function ≡ a.function + b.function
  pub counter : sum.counter ≡ a.counter + b.counter
  pub bodies : sum.bodies ≡ a.bodies + b.bodies

-- The numbers of a module of a section of imports of this payload.
pub record ImportsNumbers (payload : List ℕ) (n : Numbers) : Type 0 where
  pub imports : List ImportItem
  pub decodes : vec import_format standard payload imports
  pub function : n.function ≡ imported Functions imports
  pub counter : n.counter ≡ imported Globals imports
  pub bodies : n.bodies ≡ 0

-- If the section is of imports, globals, exports or code, it decodes to items.
pub record HasDecoding (s : ℕ × List ℕ) : Type 0 where
  pub imports : s.0 ≡ number_of ids.Import → (items : List ImportItem) × vec import_format standard s.1 items
  pub globals : s.0 ≡ number_of ids.Global → (items : List GlobalItem) × vec global_item standard s.1 items
  pub exports : s.0 ≡ number_of ids.Export → (items : List ExportItem) × vec export standard s.1 items
  pub bodies : s.0 ≡ number_of ids.Code → (items : List Body) × vec (size_prefixed body) standard s.1 items

-- Why a module with this section is not covered.
abbrev pub ExplainsSection : Located → CoverageError → Type 0
ExplainsSection s (errors.Read e) = e.cause ≢ Memory → HasDecoding (copied s.section) → ⊥
ExplainsSection s (errors.Offsets offset) = (offset ≡ s.offset) × (contains_offsets s.section.name ≡ true)
ExplainsSection s (errors.Taken offset) = (offset ≡ s.offset) × IsTaken s.section
ExplainsSection s errors.TooLong = ⊥
