-- This file proves of maps of functions that they give indices of 32 bits.
use Rattle.wasm_base.proofs.Words.{◌≡◌, ◌≢◌, ℕ, ◌+◌, ◌^◌, ◌<◌, ◌==◌, Bool, true, false, cond, refl, arith, eqb-false}
use Rattle.wasm_remap.specs.Mapping.{IsSmall}
use Rattle.wasm_remap.specs.declared.spaces.IndexSpace.TheVariants as spaces
use Rattle.read_back.specs.Remapped.{exchanged, next, next_function}

small : (n : ℕ) → n < 2 ^ 32 → next n < 2 ^ 32
small n h = go (n == 0xFFFFFFFF) refl
  where
    less : n ≢ 0xFFFFFFFF → n + 1 < 2 ^ 32
    less e = omega (arith, h, e)

    go : (b : Bool) → (n == 0xFFFFFFFF) ≡ b → cond b n (n + 1) < 2 ^ 32
    go true e = h
    go false e = less (eqb-false n 0xFFFFFFFF e)

pub next_small : IsSmall next_function
next_small spaces.Functions n h = small n h
next_small spaces.Types n h = h
next_small spaces.Tables n h = h
next_small spaces.Memories n h = h
next_small spaces.Globals n h = h
next_small spaces.Tags n h = h
next_small spaces.Elements n h = h
next_small spaces.Data n h = h

-- The exchanged functions have new indices below 2^32.
pub exchanged_small : (first second : ℕ) → first < 2 ^ 32 → second < 2 ^ 32 → IsSmall (exchanged first second)
exchanged_small first second f s spaces.Functions n lt = go (n == first) (n == second)
  where
    go : (a b : Bool) → cond a second (cond b first n) < 2 ^ 32
    go true b = s
    go false true = f
    go false false = lt
exchanged_small first second f s space n lt = lt
