-- This file proves how readers decode values after fixed bytes.
use Rattle.wasm_base.proofs.Words.{◌≡◌, ℕ, List, ◌++◌, refl, ap, ◌∙◌, Mode, Format, fixed, prefixed, Decodes, Rejects, fixed_unambiguous, tagged_decodes, tagged_none, tagged_rejects}

module _ {X : Type 0} {m : Mode} (head : List ℕ) (F : Format X) {bytes : List ℕ} where
  front_of : {rest : List ℕ} → bytes ≡ head ++ rest → Decodes (fixed head (tt {0})) m bytes tt rest
  front_of e = record { front = head; split = e; encodes = (refl, refl) }

  pub prefixed_decodes : {rest last : List ℕ} {x : X} → bytes ≡ head ++ rest → Decodes F m rest x last → Decodes (prefixed head F) m bytes x last
  prefixed_decodes e h = tagged_decodes {G = λ u. F} (front_of e) h

  pub prefixed_rejects : {rest : List ℕ} → bytes ≡ head ++ rest → Rejects F m rest → Rejects (prefixed head F) m bytes
  prefixed_rejects e n = tagged_rejects {G = λ u. F} (fixed_unambiguous head tt) (front_of e) n

  -- If the bytes do not begin with the fixed bytes, nothing decodes.
  pub prefixed_other : ((rest : List ℕ) → bytes ≡ head ++ rest → ⊥) → Rejects (prefixed head F) m bytes
  prefixed_other other = tagged_none (fixed head (tt {0})) (λ u. F) bytes (record { none = λ u rest h. other rest (h.split ∙ ap (λ z. z ++ rest) h.encodes.0) })
