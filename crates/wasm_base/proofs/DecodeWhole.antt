-- This file proves how readers decode values that take all of the bytes.
use Rattle.wasm_base.proofs.Std.{◌≡◌, ◌≢◌, ℕ, ◌<◌, List, [], ◌∷◌, ◌++◌, length, map, sym, ap, subst, ◌∙◌, append_assoc, append-nil, arith, map-append}
use Rattle.std.proofs.lemmas.List.{length-append}
use Rattle.wasm_base.specs.{Mode, RejectsWhole, Format, members, Unambiguous, BeginsWith, Decodes, Rejects}
use Rattle.wasm_base.proofs.DecodingSteps.{decodes_same}
use Rattle.wasm_base.proofs.DecodeSizePrefixed.{none_left}

-- ---- a value that takes all of the bytes

all_of : {m : Mode} {X : Type 0} (F : Format X) (bytes : List ℕ) (x : X) → F m bytes x → Decodes F m bytes x []
all_of F bytes x h = record { front = bytes; split = sym (append-nil bytes); encodes = h }

pub whole_decodes : {m : Mode} {X : Type 0} (F : Format X) (bytes left : List ℕ) (x : X) → Decodes F m bytes x left → length left ≡ 0 → F m bytes x
whole_decodes {m = m} F bytes left x h e = subst (λ z. F m z x) (sym (h.split ∙ ap (λ z. h.front ++ z) (none_left left e) ∙ append-nil h.front)) h.encodes

pub whole_more : {m : Mode} {X : Type 0} (F : Format X) (bytes left : List ℕ) (x : X) → Unambiguous F → Decodes F m bytes x left → length left ≢ 0 → RejectsWhole F m bytes
whole_more F bytes left x unique h more = record { none = λ y s. more (ap length (decodes_same unique h (all_of F bytes y s)).1) }

pub whole_rejects : {m : Mode} {X : Type 0} (F : Format X) (bytes : List ℕ) → Rejects F m bytes → RejectsWhole F m bytes
whole_rejects F bytes n = record { none = λ x s. n.none x [] (all_of F bytes x s) }

pub ruleset whole_steps = (whole_decodes, whole_more, whole_rejects)

-- ---- members up to the last byte

-- The state after these items: the remaining members complete the list, and there is no list if
-- they do not decode.
abbrev pub HasMembers : {T X : Type 0} → Format X → Mode → (T → X) → List ℕ → List T → List ℕ → Type 0
HasMembers {T} {X} F m view bytes items rest = ((ys : List X) → members F m rest ys → members F m bytes (map view items ++ ys)) × (RejectsWhole (members F) m rest → RejectsWhole (members F) m bytes)

module _ {T X : Type 0} (F : Format X) (view : T → X) (bytes : List ℕ) where
  pub members_begun : {m : Mode} → HasMembers F m view bytes [] bytes
  members_begun = (λ ys h. h, λ n. n)

  -- If a member decodes and no members decode after it, no list of members takes all of the bytes.
  after_member : {m : Mode} → Unambiguous F → (rest after : List ℕ) (x : X) → Decodes F m rest x after → rest ≢ [] → RejectsWhole (members F) m after → RejectsWhole (members F) m rest
  after_member {m = m} f rest after x h some n = record { none = go }
    where
      go : (ys : List X) → members F m rest ys → ⊥
      go [] g = some g
      go (y ∷ ys) g =
          let same = decodes_same f h (record { front = g.0; split = g.2; encodes = g.3 }) in
          n.none ys (subst (λ z. members F m z ys) (sym same.1) g.4)

  pub members_continued : {m : Mode} → Unambiguous F → (rest after : List ℕ) (items : List T) (x : T) → HasMembers F m view bytes items rest → rest ≢ [] → Decodes F m rest (view x) after → HasMembers F m view bytes (items ++ x ∷ []) after
  members_continued {m = m} f rest after items x go some g = (
    λ ys h. subst (λ z. members F m bytes z) (sym (ap (λ z. z ++ ys) (map-append view items (x ∷ [])) ∙ append_assoc (map view items) (view x ∷ []) ys)) (go.0 (view x ∷ ys) (g.front, after, g.split, g.encodes, h)),
    λ n. go.1 (after_member f rest after (view x) g some n),
  )

  pub members_fail : {m : Mode} (rest : List ℕ) (items : List T) → HasMembers F m view bytes items rest → rest ≢ [] → Rejects F m rest → RejectsWhole (members F) m bytes
  members_fail {m = m} rest items go some n = go.1 (record { none = none })
    where
      none : (ys : List X) → members F m rest ys → ⊥
      none [] g = some g
      none (y ∷ ys) g = n.none y g.1 (record { front = g.0; split = g.2; encodes = g.3 })

  pub members_done : {m : Mode} (rest : List ℕ) (items : List T) → HasMembers F m view bytes items rest → rest ≡ [] → members F m bytes (map view items)
  members_done {m = m} rest items go e = subst (λ z. members F m bytes z) (append-nil (map view items)) (go.0 [] e)

pub empty_not : (rest : List ℕ) → length rest ≢ 0 → rest ≢ []
empty_not rest h e = h (ap length e)

pub member_shorter : {m : Mode} {X : Type 0} (F : Format X) (bytes rest : List ℕ) (x : X) → BeginsWith (λ b. Unit {0}) F → Decodes F m bytes x rest → length rest < length bytes
member_shorter {m = m} F bytes rest x begins h =
    let b = begins m h.front x h.encodes in
    omega (arith, ap length h.split, length-append h.front rest, ap length b.2)
