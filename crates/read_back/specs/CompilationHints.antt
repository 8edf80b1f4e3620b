-- This file defines the items of the sections of compilation hints.
use Rattle.std.specs.Prelude.{ℕ, List, [], ◌∷◌, Some}
use Rattle.wasm_custom.specs.Words.{Frequencies, HintedTargets, Orders}

-- The frequency 32 of the instruction at offset 3 of the function of this index.
abbrev pub frequent : ℕ → List Frequencies
frequent index = (index, (3, 32) ∷ []) ∷ []

-- The order 1 and the hotness 5 of the function of this index.
abbrev pub ordered : ℕ → List Orders
ordered index = (index, (0, record { order = 1; hotness = Some 5 }) ∷ []) ∷ []

-- 90 percent of the calls at offset 5 of function 0 are of the function of this index.
abbrev pub targeted : ℕ → List HintedTargets
targeted index = (0, (5, (index, 90) ∷ []) ∷ []) ∷ []
