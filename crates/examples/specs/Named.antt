-- This file defines names for debuggers.
use Rattle.std.specs.Prelude.{ℕ, List, [], ◌∷◌, codes}
use Rattle.wasm_custom.specs.Words.{Naming, NameItem, Module, Map, Indirect}

-- The name "x" of local 0.
abbrev pub x_at_0 : List Naming
x_at_0 = (0, codes "x") ∷ []

-- The name "m" of the module, the name of function 0, and the name "x" of its local 0.
abbrev pub names_of : List ℕ → List NameItem
names_of name = Module (codes "m") ∷ Map 1 ((0, name) ∷ []) ∷ Indirect 2 ((0, x_at_0) ∷ []) ∷ []
