-- This file defines the items of the custom sections.
use Rattle.std.specs.Prelude.{ℕ, List, [], ◌∷◌, Some, codes}
use Rattle.wasm_custom.specs.Words.{Hints, LinkItem, Symbols, Target, NameItem, Module, Other, Field, Symbol, of_data, Feature}
use Rattle.wasm_custom.specs.declared.hints.BranchHint.{BranchHint}
use Rattle.wasm_custom.specs.declared.target_features.FeaturePrefix.TheVariants.{Used, Disallowed}

-- The name of the module, and bytes of an id that is of no names.
abbrev pub name_and_more : List ℕ → List ℕ → List NameItem
name_and_more name more = Module name ∷ Other 14 more ∷ []

-- The symbol of data of this name: a byte at offset 0 of segment 0.
abbrev pub data_symbol : List ℕ → Symbol
data_symbol name = of_data 0 name (Some (record { index = 0; offset = 0; size = 1 }))

-- The symbol, and the architecture of the target.
abbrev pub links : List ℕ → List LinkItem
links name = Symbols (data_symbol name ∷ []) ∷ Target (codes "wasm32") ∷ []

-- The producers field "language" with `rattle` of this version.
abbrev pub language : List ℕ → List Field
language version = (codes "language", (codes "rattle", version) ∷ []) ∷ []

-- The feature "atomics" is used, and the feature of this name is not allowed.
abbrev pub used_and_not : List ℕ → List Feature
used_and_not feature = (Used, codes "atomics") ∷ (Disallowed, feature) ∷ []

-- The hint that the branch at offset 3 is likely.
abbrev pub likely : BranchHint
likely = record { branch_func_offset = 3; branch_hint_value = 1 }

-- That hint for function 0 and for the function of this index.
abbrev pub likely_hints : ℕ → List Hints
likely_hints index = (0, likely ∷ []) ∷ (index, likely ∷ []) ∷ []
