-- This file proves how readers decode values after a fixed byte.
use Rattle.wasm_base.proofs.Words.{◌≡◌, ◌≢◌, ℕ, List, [], ◌∷◌, refl, ap, ◌∙◌, Mode, Format, byte, fixed, prefixed, Decodes, Rejects, fixed_unambiguous, byte_unambiguous, decodes_same, tagged_decodes}
use Rattle.wasm_base.proofs.Words.{tagged_none, tagged_rejects}

mark_there : {m : Mode} {mark b : ℕ} {bytes rest : List ℕ} → Decodes byte m bytes b rest → b ≡ mark → Decodes (fixed (mark ∷ []) (tt {0})) m bytes tt rest
mark_there h e = record { front = h.front; split = h.split; encodes = (h.encodes ∙ ap (λ z. z ∷ []) e, refl) }

there_mark : {m : Mode} {mark : ℕ} {bytes rest : List ℕ} {u : Unit {0}} → Decodes (fixed (mark ∷ []) (tt {0})) m bytes u rest → Decodes byte m bytes mark rest
there_mark h = record { front = h.front; split = h.split; encodes = h.encodes.0 }

module _ {X : Type 0} (mark : ℕ) (F : Format X) (bytes : List ℕ) where
  pub marked_decodes : {m : Mode} (rest last : List ℕ) (b : ℕ) (x : X) → Decodes byte m bytes b rest → b ≡ mark → Decodes F m rest x last → Decodes (prefixed (mark ∷ []) F) m bytes x last
  marked_decodes rest last b x h e g = tagged_decodes {G = λ u. F} (mark_there h e) g

  pub marked_none : {m : Mode} → Rejects byte m bytes → Rejects (prefixed (mark ∷ []) F) m bytes
  marked_none n = tagged_none (fixed (mark ∷ []) (tt {0})) (λ u. F) bytes (record { none = λ u rest h. n.none mark rest (there_mark h) })

  pub marked_other : {m : Mode} (rest : List ℕ) (b : ℕ) → Decodes byte m bytes b rest → b ≢ mark → Rejects (prefixed (mark ∷ []) F) m bytes
  marked_other rest b h p = tagged_none (fixed (mark ∷ []) (tt {0})) (λ u. F) bytes (record { none = λ u last g. p (decodes_same byte_unambiguous h (there_mark g)).0 })

  pub marked_rejects : {m : Mode} (rest : List ℕ) (b : ℕ) → Decodes byte m bytes b rest → b ≡ mark → Rejects F m rest → Rejects (prefixed (mark ∷ []) F) m bytes
  marked_rejects rest b h e n = tagged_rejects {G = λ u. F} (fixed_unambiguous (mark ∷ []) tt) (mark_there h e) n

pub ruleset marked_steps = (marked_decodes, marked_other, marked_rejects)
