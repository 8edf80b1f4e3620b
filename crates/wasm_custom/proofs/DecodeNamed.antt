-- This file proves how readers decode the bytes after the name of a custom section.
use Rattle.wasm_base.proofs.Words.{◌≡◌, ◌≢◌, ℕ, List, [], length, Bool, true, refl, sym, subst, RejectsWhole, Mode, Format, name, just, fixed, tagged, vec, Unambiguous, Decodes, Rejects}
use Rattle.wasm_base.proofs.Words.{just_unambiguous, name_unambiguous, fixed_unambiguous, vec_unambiguous, decodes_same, fixed_decodes, whole_decodes, whole_more, whole_rejects}
use Rattle.wasm_custom.specs.{named_payload, listing, entries, counted_payload}

-- ---- a fixed value

module _ {X : Type 0} (F : Format X) (x : X) (bytes : List ℕ) where
  pub just_this : {m : Mode} (rest : List ℕ) (y : X) → Decodes F m bytes y rest → y ≡ x → Decodes (just x F) m bytes tt rest
  just_this {m = m} rest y h e = record { front = h.front; split = h.split; encodes = subst (λ z. F m h.front z) e h.encodes }

  pub just_none : {m : Mode} → Rejects F m bytes → Rejects (just x F) m bytes
  just_none n = record { none = λ u rest h. n.none x rest (record { front = h.front; split = h.split; encodes = h.encodes }) }

  pub just_other : {m : Mode} → Unambiguous F → (rest : List ℕ) (y : X) → Decodes F m bytes y rest → y ≢ x → Rejects (just x F) m bytes
  just_other unique rest y h p = record { none = λ u last g. p (decodes_same unique h (record { front = g.front; split = g.split; encodes = g.encodes })).0 }

pub name_there : {m : Mode} (known bytes rest n : List ℕ) → Decodes name m bytes n rest → n ≡ known → Decodes (just known name) m bytes tt rest
name_there known bytes rest n = just_this name known bytes rest n

pub name_none : {m : Mode} (known bytes : List ℕ) → Rejects name m bytes → Rejects (just known name) m bytes
name_none known bytes = just_none name known bytes

pub name_other : {m : Mode} (known bytes rest n : List ℕ) → Decodes name m bytes n rest → n ≢ known → Rejects (just known name) m bytes
name_other known bytes rest n = just_other name known bytes name_unambiguous rest n

pub ruleset name_steps = (name_there, name_none, name_other)

-- ---- a value after a format without a value

module _ {X : Type 0} (F : Format (Unit {0})) (G : Format X) (bytes : List ℕ) where
  pub behind_fills : {m : Mode} (rest : List ℕ) (x : X) → Decodes F m bytes tt rest → G m rest x → tagged F (λ u. G) m bytes x
  behind_fills rest x h g = ((tt, x), refl, record { front = h.front; back = rest; joined = h.split; first = h.encodes; second = g })

  pub behind_none : {m : Mode} → Rejects F m bytes → RejectsWhole (tagged F (λ u. G)) m bytes
  behind_none n = record { none = λ x h. n.none tt h.2.back (record { front = h.2.front; split = h.2.joined; encodes = h.2.first }) }

  pub behind_rejects : {m : Mode} → Unambiguous F → (rest : List ℕ) → Decodes F m bytes tt rest → RejectsWhole G m rest → RejectsWhole (tagged F (λ u. G)) m bytes
  behind_rejects {m = m} unique rest h n = record {
    none = λ x g.
        let same = decodes_same unique h (record { front = g.2.front; split = g.2.joined; encodes = g.2.first }) in
        n.none g.0.1 (subst (λ z. G m z g.0.1) (sym same.1) g.2.second);
  }

-- ---- a value after a name

module _ {X : Type 0} (n : List ℕ) (G : Format X) (bytes : List ℕ) where
  pub named_fills : {m : Mode} (rest : List ℕ) (x : X) → Decodes (just n name) m bytes tt rest → G m rest x → named_payload n G m bytes x
  named_fills rest x h g = behind_fills (just n name) G bytes rest x h g

  pub named_none : {m : Mode} → Rejects (just n name) m bytes → RejectsWhole (named_payload n G) m bytes
  named_none none = behind_none (just n name) G bytes none

  pub named_rejects : {m : Mode} (rest : List ℕ) → Decodes (just n name) m bytes tt rest → RejectsWhole G m rest → RejectsWhole (named_payload n G) m bytes
  named_rejects rest h none = behind_rejects (just n name) G bytes (just_unambiguous n name_unambiguous) rest h none

-- ---- items right after a name

module _ {X : Type 0} (n : List ℕ) (counted : Bool) (F : Format X) (bytes : List ℕ) where
  pub items_fill : {m : Mode} (rest : List ℕ) (xs : List X) → Decodes (just n name) m bytes tt rest → listing counted F m rest xs → named_payload n (entries (fixed [] (tt {0})) counted F) m bytes xs
  items_fill rest xs h g = named_fills n (entries (fixed [] (tt {0})) counted F) bytes rest xs h (behind_fills (fixed [] (tt {0})) (listing counted F) rest rest xs (fixed_decodes rest (tt {0})) g)

  pub no_items : {m : Mode} (rest : List ℕ) → Decodes (just n name) m bytes tt rest → RejectsWhole (listing counted F) m rest → RejectsWhole (named_payload n (entries (fixed [] (tt {0})) counted F)) m bytes
  no_items rest h none =
      named_rejects n (entries (fixed [] (tt {0})) counted F) bytes rest h (behind_rejects (fixed [] (tt {0})) (listing counted F) rest (fixed_unambiguous [] (tt {0})) rest (fixed_decodes rest (tt {0})) none)

-- ---- counted items right after a name that is an argument of the call

module _ {X : Type 0} {n known : List ℕ} (called : known ≡ n) (F : Format X) (bytes : List ℕ) where
  pub counted_none : {m : Mode} → Rejects (just known name) m bytes → RejectsWhole (counted_payload n F) m bytes
  counted_none {m = m} none = named_none n (entries (fixed [] (tt {0})) true F) bytes (subst (λ z. Rejects (just z name) m bytes) called none)

  module _ {m : Mode} {rest : List ℕ} (h : Decodes (just known name) m bytes tt rest) where
    there : Decodes (just n name) m bytes tt rest
    there = subst (λ z. Decodes (just z name) m bytes tt rest) called h

    pub counted_decodes : (left : List ℕ) (xs : List X) → Decodes (vec F) m rest xs left → length left ≡ 0 → counted_payload n F m bytes xs
    counted_decodes left xs g e = items_fill n true F bytes rest xs there (whole_decodes (vec F) rest left xs g e)

    pub counted_rejects : Rejects (vec F) m rest → RejectsWhole (counted_payload n F) m bytes
    counted_rejects none = no_items n true F bytes rest there (whole_rejects (vec F) rest none)

    pub counted_more : Unambiguous F → (left : List ℕ) (xs : List X) → Decodes (vec F) m rest xs left → length left ≢ 0 → RejectsWhole (counted_payload n F) m bytes
    counted_more unique left xs g more = no_items n true F bytes rest there (whole_more (vec F) rest left xs (vec_unambiguous unique) g more)
