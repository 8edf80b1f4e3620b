-- This file proves loops that skip members.
use Rattle.wasm_base.proofs.Std.{◌≡◌, ℕ, ◌<◌, ◌+◌, List, [], ◌∷◌, ◌++◌, length, refl, sym, subst, arith}
use Rattle.std.proofs.lemmas.List.{length-append}
use Rattle.wasm_base.specs.{Mode, Format, u32, members, vec, Unambiguous, Decodes, Rejects}
use Rattle.wasm_base.proofs.DecodingSteps.{members_start, members_step, vec_decodes, vec_rejects}

-- The reader has skipped `count` values from `start` on, and `rest` remains.
pub record HasSkipped {X : Type 0} (F : Format X) (m : Mode) (start : List ℕ) (count : ℕ) (rest : List ℕ) : Type 0 where
  pub values : List X
  pub read : Decodes (members F) m start values rest
  pub counted : length values ≡ count

module _ {X : Type 0} (F : Format X) where
  pub skipped_start : {m : Mode} (start : List ℕ) → HasSkipped F m start 0 start
  skipped_start {m = m} start = record { values = []; read = members_start F m start; counted = refl }

  pub skipped_step : {m : Mode} (start rest after : List ℕ) (count : ℕ) (x : X) → HasSkipped F m start count rest → Decodes F m rest x after → HasSkipped F m start (count + 1) after
  skipped_step start rest after count x h g = record { values = h.values ++ x ∷ []; read = members_step F h.read g; counted = omega (arith, length-append h.values (x ∷ []), h.counted) }

  pub skipped_decodes : {m : Mode} (bytes start rest : List ℕ) (n : ℕ) → Decodes u32 m bytes n start → HasSkipped F m start n rest → (xs : List X) × Decodes (vec F) m bytes xs rest × (n ≡ length xs)
  skipped_decodes bytes start rest n count h = (h.values, vec_decodes F count h.read h.counted, sym h.counted)

  pub skipped_rejects : {m : Mode} (bytes start rest : List ℕ) (n taken : ℕ) → Unambiguous F → Decodes u32 m bytes n start → HasSkipped F m start taken rest → taken < n → Rejects F m rest → Rejects (vec F) m bytes
  skipped_rejects bytes start rest n taken unique count h l none = vec_rejects h.values unique count h.read (subst (λ z. z < n) (sym h.counted) l) none
