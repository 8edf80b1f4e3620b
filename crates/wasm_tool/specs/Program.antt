-- This file defines the output of the program.
use Rattle.std.specs.Prelude.{ℕ, ◌++◌, ◌≡◌, ◌⊎◌, List, [], ◌∷◌, Option, take}
use Rattle.std.specs.Io.KnownBytes.{Appends, Keeps}
use Rattle.hex.specs.Hex.{encode_lower}
use Rattle.wasm_tool.specs.Lines.{lines_of}
use Rattle.wasm_tool.specs.Listings.{Lists}
use Rattle.wasm_tool.specs.Recipe.{entries_of, recipe_module}
use Rattle.wasm_tool.specs.declared.fault.RecipeCause.TheVariants.{Memory}
use Rattle.wasm_tool.specs.declared.program.Trouble.{Trouble}
use Rattle.wasm_tool.specs.declared.program.Trouble.TheVariants.{Recipe}
use Rattle.wasm_tool.specs.declared.version.Version.TheVariants.{First}

-- The module of a recipe in lower-case hexadecimal, and a line feed.
abbrev pub hex_line_of : List ℕ → List ℕ
hex_line_of text = encode_lower (recipe_module (entries_of First (lines_of text))) ++ 0x0A ∷ []

-- An allocation failed, but not at a line of a recipe.
abbrev pub IsLateRefusal : Trouble → Type 0
IsLateRefusal (Recipe fault) = (fault.line ≡ 0) × (fault.cause ≡ Memory)
IsLateRefusal _ = ⊥

-- The writer gains a front of these bytes: none of them, some or all.
pub record GainsFront (old new : Option (List ℕ)) (bytes : List ℕ) : Type 0 where
  pub count : ℕ
  pub gained : Appends old new (take count bytes)

-- The writer gains nothing, or a front of the list of the sections of the module in this text.
abbrev pub GainsFrontOfListing : List ℕ → Option (List ℕ) → Option (List ℕ) → Type 0
GainsFrontOfListing text old new = Keeps old new ⊎ ((lines : List ℕ) × Lists text lines × GainsFront old new lines)
