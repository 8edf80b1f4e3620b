-- This file defines the result of `dz_assemble` and `dz_assemble_versioned`.
use Rattle.std.specs.Prelude.{◌≡◌, ℕ, List, ◌++◌, IsUtf8, length, drop, if◌then◌else◌, ◌⊎◌, nat_le, All}
use Rattle.wasm_base.specs.Words.{wasm_module, DecodesWhole}
use Rattle.wasm_tool.specs.Words.{Script, IsGood, recipe_module, entries_of, sections_of, Explains}
use Rattle.wasm_tool.specs.declared.fault.RecipeCause.{RecipeCause}
use Rattle.wasm_tool.specs.declared.fault.RecipeCause.TheVariants.{UnknownCommand, BadNumber, BadHex, MissingWord, Memory, TooLong, SurplusWord, UnknownType, UnusedLocals}
use Rattle.wasm_c.specs.declared.TheConstants.{NO_ANSWER}

-- The number of a cause. 7 is that of a recipe that is not UTF-8.
abbrev pub cause_number : RecipeCause → ℕ
cause_number UnknownCommand = 1
cause_number BadNumber = 2
cause_number BadHex = 3
cause_number MissingWord = 4
cause_number Memory = 5
cause_number TooLong = 6
cause_number SurplusWord = 8
cause_number UnknownType = 9
cause_number UnusedLocals = 10

-- The old list with the items at its front, if it is long enough, and the old list otherwise.
abbrev pub written : {T : Type 0} → List T → List T → List T
written items old = if nat_le (length items) (length old) then items ++ drop (length items) old else old

-- The call returns the number of items, and copies them if the buffer is large enough.
pub record Gives {T : Type 0} (items old new : List T) (n : ℕ) : Type 0 where
  pub count : n ≡ length items
  pub copied : new ≡ written items old

-- The module of a recipe.
abbrev pub module_of : Script → List ℕ
module_of script = recipe_module (entries_of script.version script.lines)

-- The recipe is UTF-8 without an error in any line, and the call returns its module, which decodes
-- to the recipe's sections alone.
pub record Assembled (script : Script) (recipe old new : List ℕ) (line cause n : ℕ) : Type 0 where
  pub utf8 : IsUtf8 recipe
  pub good : All (IsGood script.version) script.lines
  pub gives : Gives (module_of script) old new n
  pub read : DecodesWhole wasm_module (module_of script) (sections_of (entries_of script.version script.lines))
  pub no_line : line ≡ 0
  pub no_cause : cause ≡ 0

-- The recipe is not UTF-8 (cause 7 at line 0), or the cause explains this line as `Explains`
-- states.
abbrev pub IsWhy : Script → List ℕ → ℕ → ℕ → Type 0
IsWhy script recipe line cause = ((line ≡ 0) × (cause ≡ 7) × (IsUtf8 recipe → ⊥)) ⊎ ((c : RecipeCause) × (cause ≡ cause_number c) × Explains script.version script.lines line c)

-- The call returns no module, and writes nothing.
pub record Refuses (script : Script) (recipe old new : List ℕ) (line cause n : ℕ) : Type 0 where
  pub answer : n ≡ NO_ANSWER
  pub kept : new ≡ old
  pub why : IsWhy script recipe line cause

-- The result of a call with a recipe, whose bytes are this script: an error or a module.
abbrev pub Outcome : Script → List ℕ → List ℕ → List ℕ → ℕ → ℕ → ℕ → Type 0
Outcome script recipe old new line cause n = Refuses script recipe old new line cause n ⊎ Assembled script recipe old new line cause n
