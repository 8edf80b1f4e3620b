-- This file defines how the decoding of a suffix determines the decoding of the whole.
use Rattle.std.specs.Prelude.{List, ℕ}
use Rattle.wasm_base.specs.Numbers.{Mode}
use Rattle.wasm_base.specs.Formats.{Format}
use Rattle.wasm_base.specs.Decoding.{Decodes, Rejects}

-- Decoding continues: if `F` decodes `x` from `rest`, `G` decodes `f x` from `bytes` with the same
-- suffix. If `F` decodes nothing, neither does `G`. Both are in this mode.
pub record Continues {X Y : Type 0} (mode : Mode) (G : Format Y) (bytes : List ℕ) (F : Format X) (rest : List ℕ) (f : X → Y) : Type 0 where
  pub found : (x : X) (last : List ℕ) → Decodes F mode rest x last → Decodes G mode bytes (f x) last
  pub none : Rejects F mode rest → Rejects G mode bytes

-- All of the bytes together encode no value of `F` in this mode.
pub record RejectsWhole {X : Type 0} (F : Format X) (mode : Mode) (bytes : List ℕ) : Type 0 where
  pub none : (x : X) → F mode bytes x → ⊥
