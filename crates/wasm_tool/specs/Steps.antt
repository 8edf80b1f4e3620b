-- This file defines the effect of a line on a recipe, the effect of a section on a module, and the
-- meaning of errors.
use Rattle.std.specs.Prelude.{ℕ, [], ◌≡◌, ◌≢◌, ◌++◌, ◌-◌, ◌≤◌, ⊤, List, ◌∷◌, Option, None, Result, Ok, Err, IsOkAnd, OnOk, length, Some, option_map, All}
use Rattle.std.specs.List.{slice_get, flat_map}
use Rattle.wasm_base.specs.Words.{unsigned_encoding, any_section_encoding, longest, HasEncodableSize, module_encoding, IsEncodableSection}
use Rattle.wasm_base.specs.declared.refused.Refused.{Refused}
use Rattle.wasm_tool.specs.declared.fault.RecipeCause.{RecipeCause}
use Rattle.wasm_tool.specs.declared.fault.RecipeCause.TheVariants.{Memory, TooLong, UnusedLocals}
use Rattle.wasm_tool.specs.declared.recipe.Recipe.{Recipe}
use Rattle.wasm_tool.specs.declared.version.Version.{Version}
use Rattle.wasm_tool.specs.Recipe.{Addition, IsGood, AreEncodableNames, IsEncodableRecipe, entries_of, entry_of, in_order, added_to, bodies_of, left_locals, last_of, lines_before, lines_through}
use Rattle.wasm_base.specs.declared.refused.Refused.TheVariants as refusals

-- ---- lines

-- The item of a start section.
abbrev pub start_items : Option ℕ → List (List ℕ)
start_items None = []
start_items (Some index) = unsigned_encoding index ∷ []

-- The items that remain when later ones replace earlier ones.
abbrev pub replaced : List (List ℕ) → List (List ℕ) → List (List ℕ)
replaced old [] = old
replaced old (item ∷ items) = last_of (item ∷ items)

-- The recipe has the old items, then those of the entries.
pub record AddsEntries {A : Type 0} (old new : Recipe A) (entries : List Addition) : Type 0 where
  pub types : new.types ≡ old.types ++ added_to 1 entries
  pub imports : new.imports ≡ old.imports ++ added_to 2 entries
  pub functions : new.functions ≡ old.functions ++ added_to 3 entries
  pub tables : new.tables ≡ old.tables ++ added_to 4 entries
  pub memories : new.memories ≡ old.memories ++ added_to 5 entries
  pub globals : new.globals ≡ old.globals ++ added_to 6 entries
  pub exports : new.exports ≡ old.exports ++ added_to 7 entries
  pub start : start_items new.start ≡ replaced (start_items old.start) (added_to 8 entries)
  pub elements : new.elements ≡ old.elements ++ added_to 9 entries
  pub locals : new.locals ≡ left_locals old.locals entries
  pub code : new.code ≡ old.code ++ bodies_of old.locals entries
  pub segments : new.segments ≡ old.segments ++ added_to 11 entries
  pub names : new.names ≡ old.names ++ added_to 0 entries

-- The old items and those of the entries fit their sections.
pub record IsEncodableWith {A : Type 0} (old : Recipe A) (entries : List Addition) : Type 0 where
  pub types : IsEncodableSection (old.types ++ added_to 1 entries)
  pub imports : IsEncodableSection (old.imports ++ added_to 2 entries)
  pub functions : IsEncodableSection (old.functions ++ added_to 3 entries)
  pub tables : IsEncodableSection (old.tables ++ added_to 4 entries)
  pub memories : IsEncodableSection (old.memories ++ added_to 5 entries)
  pub globals : IsEncodableSection (old.globals ++ added_to 6 entries)
  pub exports : IsEncodableSection (old.exports ++ added_to 7 entries)
  pub elements : IsEncodableSection (old.elements ++ added_to 9 entries)
  pub locals : length (left_locals old.locals entries) ≤ longest
  pub code : IsEncodableSection (old.code ++ bodies_of old.locals entries)
  pub segments : IsEncodableSection (old.segments ++ added_to 11 entries)
  pub names : AreEncodableNames (old.names ++ added_to 0 entries)

-- No section has an item.
pub record IsEmpty {A : Type 0} (recipe : Recipe A) : Type 0 where
  pub types : recipe.types ≡ []
  pub imports : recipe.imports ≡ []
  pub functions : recipe.functions ≡ []
  pub tables : recipe.tables ≡ []
  pub memories : recipe.memories ≡ []
  pub globals : recipe.globals ≡ []
  pub exports : recipe.exports ≡ []
  pub start : start_items recipe.start ≡ []
  pub elements : recipe.elements ≡ []
  pub locals : recipe.locals ≡ []
  pub code : recipe.code ≡ []
  pub segments : recipe.segments ≡ []
  pub names : recipe.names ≡ []

-- The items fit their sections.
pub record AreEncodableSections {A : Type 0} (recipe : Recipe A) : Type 0 where
  pub types : IsEncodableSection recipe.types
  pub imports : IsEncodableSection recipe.imports
  pub functions : IsEncodableSection recipe.functions
  pub tables : IsEncodableSection recipe.tables
  pub memories : IsEncodableSection recipe.memories
  pub globals : IsEncodableSection recipe.globals
  pub exports : IsEncodableSection recipe.exports
  pub start : All HasEncodableSize (start_items recipe.start)
  pub elements : IsEncodableSection recipe.elements
  pub code : IsEncodableSection recipe.code
  pub segments : IsEncodableSection recipe.segments
  pub names : AreEncodableNames recipe.names

-- The sections of the recipe, in order.
abbrev pub listed : {A : Type 0} → Recipe A → List (ℕ × List ℕ)
listed recipe =
    in_order recipe.types recipe.imports recipe.functions recipe.tables recipe.memories recipe.globals recipe.exports (start_items recipe.start) recipe.elements recipe.code recipe.segments recipe.names

-- None of the lines has an error, and the sections have their items.
pub record ContainsLines {A : Type 0} (version : Version) (lines : List (List ℕ)) (recipe : Recipe A) : Type 0 where
  pub good : All (IsGood version) lines
  pub types : recipe.types ≡ added_to 1 (entries_of version lines)
  pub imports : recipe.imports ≡ added_to 2 (entries_of version lines)
  pub functions : recipe.functions ≡ added_to 3 (entries_of version lines)
  pub tables : recipe.tables ≡ added_to 4 (entries_of version lines)
  pub memories : recipe.memories ≡ added_to 5 (entries_of version lines)
  pub globals : recipe.globals ≡ added_to 6 (entries_of version lines)
  pub exports : recipe.exports ≡ added_to 7 (entries_of version lines)
  pub start : start_items recipe.start ≡ last_of (added_to 8 (entries_of version lines))
  pub elements : recipe.elements ≡ added_to 9 (entries_of version lines)
  pub locals : recipe.locals ≡ left_locals [] (entries_of version lines)
  pub code : recipe.code ≡ bodies_of [] (entries_of version lines)
  pub segments : recipe.segments ≡ added_to 11 (entries_of version lines)
  pub names : recipe.names ≡ added_to 0 (entries_of version lines)

-- The sections hold these lines, no locals are without a body, and the bytes are the module of the
-- sections.
pub record IsModule {A : Type 0} (version : Version) (lines : List (List ℕ)) (recipe : Recipe A) (bytes : List ℕ) : Type 0 where
  pub contains : ContainsLines version lines recipe
  pub used : recipe.locals ≡ []
  pub encodable : AreEncodableSections recipe
  pub text : bytes ≡ module_encoding (listed recipe)

-- The result and the effect of a call that decodes a line, given the entries or the error of the
-- line.
abbrev pub Follows : {A : Type 0} → Result (List Addition) RecipeCause → Recipe A → Recipe A → Result (Unit {0}) RecipeCause → Type 0
Follows said old new (Ok done) = IsOkAnd said (AddsEntries old new)
Follows said old new (Err Memory) = ⊤
Follows said old new (Err TooLong) = IsOkAnd said (λ entries. ¬ (IsEncodableWith old entries))
Follows said old new (Err UnusedLocals) = ⊥
Follows said old new (Err cause) = said ≡ Err cause

-- The cause is an error of the words of a line.
abbrev pub IsOfWords : RecipeCause → Type 0
IsOfWords Memory = ⊥
IsOfWords TooLong = ⊥
IsOfWords UnusedLocals = ⊥
IsOfWords cause = ⊤

-- The result of a call that decodes some words, given their value or their error.
abbrev pub Parses : {T : Type 0} → Result T RecipeCause → Result T RecipeCause → Type 0
Parses said (Ok value) = said ≡ Ok value
Parses said (Err cause) = (said ≡ Err cause) × IsOfWords cause

-- ---- sections

-- The module gains these sections if they fit.
pub record Puts (sections : List (ℕ × List ℕ)) (Encodable : Type 0) (old new : List ℕ) (result : Result (Unit {0}) Refused) : Type 0 where
  pub ok : OnOk result (new ≡ old ++ flat_map any_section_encoding sections)
  pub was_encodable : OnOk result Encodable
  pub too_long : Encodable → result ≢ Err refusals.TooLong

-- ---- errors

-- The meaning of a cause for the line that it names, counted from 1, or for all lines if it names
-- 0.
abbrev pub SaysCause : Version → List (List ℕ) → ℕ → RecipeCause → Type 0
SaysCause version lines line Memory = ⊤
SaysCause version lines line TooLong = All (IsGood version) (lines_through line lines) × (¬ (IsEncodableRecipe (entries_of version (lines_through line lines))))
SaysCause version lines line UnusedLocals = (line ≡ 0) × (left_locals [] (entries_of version lines) ≢ [])
SaysCause version lines line cause = (1 ≤ line) × (option_map (λ l. entry_of version l) (slice_get lines (line - 1)) ≡ Some (Err cause))

-- The error names a line, or 0 after the last one, and the cause. No line before it has an error.
pub record Explains (version : Version) (lines : List (List ℕ)) (line : ℕ) (cause : RecipeCause) : Type 0 where
  pub within : line ≤ length lines
  pub before : All (IsGood version) (lines_before line lines)
  pub says : SaysCause version lines line cause

-- The cause of a refused call.
abbrev pub cause_of : Refused → RecipeCause
cause_of refusals.Memory = Memory
cause_of refusals.TooLong = TooLong
