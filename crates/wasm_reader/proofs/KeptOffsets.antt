-- This file proves which offsets are kept, and which section is the first that loses some.
use Rattle.wasm_base.proofs.Words.{◌≡◌, ◌⊎◌, inl, inr, ℕ, ◌≤◌, ◌<◌, ◌+◌, List, [], ◌∷◌, ◌++◌, length, min, Bool, true, false, ◌||◌, Decides, MatchBool, if◌then◌else◌, Option, Some, None, refl, sym}
use Rattle.wasm_base.proofs.Words.{ap, subst, ◌∙◌, append_assoc, arith, AllByRecursion, flat_map, cases_lt, header}
use Rattle.std.proofs.lemmas.List.{length-append}
use Rattle.wasm_reader.specs.{Section, bytes_of, Stays, AllStay, KeepsOffsets, HasLostOffsets, Rewrite, written, keeps, count_kept, IsChange, AreMoved, IsInto, IsFirst, size_before, size_after}
use Rattle.wasm_reader.specs.{HasFound, target_of, found_of, lost, earlier, first_of, lost_at, HasTally}
use Rattle.wasm_reader.specs.declared.whole.Found.{Found}
use Rattle.wasm_reader.specs.declared.whole.Offsets.TheVariants.{Refuse}
use Rattle.wasm_reader.specs.declared.whole.Tally.{Tally}
use Rattle.wasm_reader.specs.declared.whole.Target.{Target}
use Rattle.wasm_reader.specs.declared.whole.Target.TheVariants.{CodeAndData, Relocated, Module}

-- ---- lists

all_append : (P : Rewrite → Type 0) (ws vs : List Rewrite) → AllByRecursion P ws → AllByRecursion P vs → AllByRecursion P (ws ++ vs)
all_append P [] vs h g = g
all_append P (w ∷ ws) vs h g = (h.0, all_append P ws vs h.1 g)

pub all_map : (P Q : Rewrite → Type 0) → ((w : Rewrite) → P w → Q w) → (ws : List Rewrite) → AllByRecursion P ws → AllByRecursion Q ws
all_map P Q f [] h = tt
all_map P Q f (w ∷ ws) h = (f w h.0, all_map P Q f ws h.1)

-- ---- sections that stay

stays_at : (target : Target) (w : Rewrite) (a b c d : ℕ) → (a ≡ b → c ≡ d) → Stays target a b w → Stays target c d w
stays_at target w a b c d f h = (h.0, λ p. f (h.1 p))

-- One more section stays.
stay_more : (target : Target) (from to : ℕ) (ws : List Rewrite) (w : Rewrite) (a b : ℕ) → (a ≡ b → from + size_before ws ≡ to + size_after ws) → AllStay target from to ws → Stays target a b w → AllStay target from to (ws ++ w ∷ [])
stay_more target from to [] w a b f h g = (stays_at target w a b from to (λ e. let k = f e in omega arith) g, tt)
stay_more target from to (v ∷ vs) w a b f h g = (
  h.0,
  stay_more target (from + length (bytes_of v.section)) (to + length (written v)) vs w a b
      (λ e. let k = f e in omega (arith, length-append (bytes_of v.section) (flat_map (λ u. bytes_of u.section) vs), length-append (written v) (flat_map written vs))) h.1 g,
)

-- If all sections stay, so do the last one and those before it.
stay_less : (target : Target) (from to : ℕ) (ws : List Rewrite) (w : Rewrite) (a b : ℕ) → (from + size_before ws ≡ to + size_after ws → a ≡ b) → AllStay target from to (ws ++ w ∷ []) → AllStay target from to ws × Stays target a b w
stay_less target from to [] w a b f h = (tt, stays_at target w from to a b (λ e. f (omega (arith, e))) h.0)
stay_less target from to (v ∷ vs) w a b f h =
    let g = stay_less target (from + length (bytes_of v.section)) (to + length (written v)) vs w a b
    (λ e. f (omega (arith, e, length-append (bytes_of v.section) (flat_map (λ u. bytes_of u.section) vs), length-append (written v) (flat_map written vs)))) h.1 in
    ((h.0, g.0), g.1)

-- All of these sections stay in a module.
abbrev StayInModule : Target → List Rewrite → Type 0
StayInModule target ws = AllStay target (length header) (length header) ws

still_stay : (target : Target) (ws : List Rewrite) (w : Rewrite) (a b : Bool) → MatchBool a (StayInModule target ws → ⊥) (StayInModule target ws)
    → MatchBool b (Stays target (length header + size_before ws) (length header + size_after ws) w → ⊥) (Stays target (length header + size_before ws) (length header + size_after ws) w)
    → MatchBool (a || b) (StayInModule target (ws ++ w ∷ []) → ⊥) (StayInModule target (ws ++ w ∷ []))
still_stay target ws w true b h g = λ all. h (stay_less target (length header) (length header) ws w (length header + size_before ws) (length header + size_after ws) (λ e. e) all).0
still_stay target ws w false true h g = λ all. g (stay_less target (length header) (length header) ws w (length header + size_before ws) (length header + size_after ws) (λ e. e) all).1
still_stay target ws w false false h g = stay_more target (length header) (length header) ws w (length header + size_before ws) (length header + size_after ws) (λ e. e) h g

-- ---- the first section with a property

holder_next : (P : Rewrite → Type 0) (ws : List Rewrite) (w : Rewrite) (found : Option ℕ) (is_such : Bool) (number : ℕ) → IsFirst P ws found → length ws + 1 ≡ number → Decides is_such (P w) → IsFirst P (ws ++ w ∷ []) (first_of found is_such number)
holder_next P ws w (Some found) is_such number h e d = (h.0, h.1 ++ w ∷ [], h.2, ap (λ z. z ++ w ∷ []) h.3 ∙ append_assoc h.0 (h.2 ∷ h.1) (w ∷ []), h.4, h.5, h.6)
holder_next P ws w None true number h e d = (ws, [], w, refl, e, h, d.0 refl)
holder_next P ws w None false number h e d = all_append (λ v. P v → ⊥) ws (w ∷ []) h ((λ p. absurd (cc (d.1 p))), tt)

-- The result for a class of offsets, for one more section.
pub found_more : (target : Target) (ws : List Rewrite) (w : Rewrite) (old new : Found) (is_such is_moved is_changed is_level : Bool) (number : ℕ) → HasFound target ws old → length ws + 1 ≡ number → Decides is_such (IsInto target w) → AreMoved is_moved target w.section.id is_changed is_level
    → IsChange is_changed w.section w.encoding → Decides is_level (size_before ws ≡ size_after ws) → new.holder ≡ first_of old.holder is_such number → new.is_moved ≡ (old.is_moved || is_moved) → HasFound target (ws ++ w ∷ []) new
found_more target ws w old new is_such is_moved is_changed is_level number h e i m c l f g = record {
  holder = subst (λ z. IsFirst (IsInto target) (ws ++ w ∷ []) z) (sym f) (holder_next (IsInto target) ws w old.holder is_such number h.holder e i);
  moved = subst (λ z. MatchBool z (StayInModule target (ws ++ w ∷ []) → ⊥) (StayInModule target (ws ++ w ∷ []))) (sym g)
      (still_stay target ws w old.is_moved is_moved h.moved (m w (length header + size_before ws) (length header + size_after ws) refl c ((λ t. let k = l.0 t in omega arith), (λ t. l.1 (omega (arith, t))))));
}

pub such_of : (target : Target) (w : Rewrite) (b : Bool) (s : Section) → s ≡ w.section → Decides b (target_of s.name ≡ Some target) → Decides b (IsInto target w)
such_of target w b s e d = subst (λ z. Decides b (target_of z.name ≡ Some target)) e d

pub moved_of : (target : Target) (w : Rewrite) (b is_changed is_level : Bool) (s : Section) → s ≡ w.section → AreMoved b target s.id is_changed is_level → AreMoved b target w.section.id is_changed is_level
moved_of target w b is_changed is_level s e m = subst (λ z. AreMoved b target z.id is_changed is_level) e m

-- The result of `or`, which is a branch.
pub or_left : (a b : Bool) → a ≡ true → true ≡ (a || b)
or_left true b e = refl
or_left false b e = absurd (cc e)

pub or_right : (a b : Bool) → a ≡ false → b ≡ (a || b)
or_right true b e = absurd (cc e)
or_right false b e = refl

first_map : (P Q : Rewrite → Type 0) → ((w : Rewrite) → P w → Q w) → ((w : Rewrite) → Q w → P w) → (ws : List Rewrite) (n : Option ℕ) → IsFirst P ws n → IsFirst Q ws n
first_map P Q f g ws None h = all_map (λ w. P w → ⊥) (λ w. Q w → ⊥) (λ w n q. n (g w q)) ws h
first_map P Q f g ws (Some n) h = (h.0, h.1, h.2, h.3, h.4, all_map (λ w. P w → ⊥) (λ w. Q w → ⊥) (λ w n q. n (g w q)) h.0 h.5, f h.2 h.6)

-- A property of all sections holds of those at the front.
all_front : (P : Rewrite → Type 0) (ws vs : List Rewrite) → AllByRecursion P (ws ++ vs) → AllByRecursion P ws
all_front P [] vs h = tt
all_front P (w ∷ ws) vs h = (h.0, all_front P ws vs h.1)

all_sooner : (P : Rewrite → Type 0) (ws vs us ts : List Rewrite) → ws ++ us ≡ vs ++ ts → length ws ≤ length vs → AllByRecursion P vs → AllByRecursion P ws
all_sooner P [] vs us ts e l h = tt
all_sooner P (w ∷ ws) [] us ts e l h = absurd (omega (arith, l))
all_sooner P (w ∷ ws) (v ∷ vs) us ts e l h =
    let same : v ≡ w = cc e in
    let tails : ws ++ us ≡ vs ++ ts = cc e in
    (subst P same h.0, all_sooner P ws vs us ts tails (omega (arith, l)) h.1)

all_neither : (P Q : Rewrite → Type 0) (ws : List Rewrite) → AllByRecursion (λ w. P w → ⊥) ws → AllByRecursion (λ w. Q w → ⊥) ws → AllByRecursion (λ w. P w ⊎ Q w → ⊥) ws
all_neither P Q [] h g = tt
all_neither P Q (w ∷ ws) h g = (neither h.0 g.0, all_neither P Q ws h.1 g.1)
  where
    neither : (P w → ⊥) → (Q w → ⊥) → P w ⊎ Q w → ⊥
    neither n m (inl p) = n p
    neither n m (inr q) = m q

-- The first section with one of two properties is the earlier of the two first ones.
first_either : (P Q : Rewrite → Type 0) (ws : List Rewrite) (a b : Option ℕ) → IsFirst P ws a → IsFirst Q ws b → IsFirst (λ w. P w ⊎ Q w) ws (earlier a b)
first_either P Q ws None None h g = all_neither P Q ws h g
first_either P Q ws None (Some b) h g = (g.0, g.1, g.2, g.3, g.4, all_neither P Q g.0 (all_front (λ w. P w → ⊥) g.0 (g.2 ∷ g.1) (subst (λ z. AllByRecursion (λ w. P w → ⊥) z) g.3 h)) g.5, inr g.6)
first_either P Q ws (Some a) None h g = (h.0, h.1, h.2, h.3, h.4, all_neither P Q h.0 h.5 (all_front (λ w. Q w → ⊥) h.0 (h.2 ∷ h.1) (subst (λ z. AllByRecursion (λ w. Q w → ⊥) z) h.3 g)), inl h.6)
first_either P Q ws (Some a) (Some b) h g = either (cases_lt b a)
  where
    either : (b < a) ⊎ (a ≤ b) → IsFirst (λ w. P w ⊎ Q w) ws (Some (min a b))
    either (inl l) = (g.0, g.1, g.2, g.3, omega (arith, g.4), all_neither P Q g.0 (all_sooner (λ w. P w → ⊥) g.0 h.0 (g.2 ∷ g.1) (h.2 ∷ h.1) (sym g.3 ∙ h.3) (omega (arith, g.4, h.4)) h.5) g.5, inr g.6)
    either (inr l) = (h.0, h.1, h.2, h.3, omega (arith, h.4), all_neither P Q h.0 h.5 (all_sooner (λ w. Q w → ⊥) h.0 g.0 (h.2 ∷ h.1) (g.2 ∷ g.1) (sym h.3 ∙ g.3) (omega (arith, g.4, h.4)) g.5), inl h.6)

-- The section holds offsets of this class, and they are lost.
abbrev IsLost : Target → List Rewrite → Rewrite → Type 0
IsLost target all w = IsInto target w × (StayInModule target all → ⊥)

lost_of : (target : Target) (ws : List Rewrite) (b : Bool) (n : Option ℕ) → IsFirst (IsInto target) ws n → MatchBool b (StayInModule target ws → ⊥) (StayInModule target ws) → IsFirst (IsLost target ws) ws (if b then n else None)
lost_of target ws true n h m = first_map (IsInto target) (IsLost target ws) (λ w i. (i, m)) (λ w l. l.0) ws n h
lost_of target ws false n h m = none ws
  where
    none : (vs : List Rewrite) → AllByRecursion (λ w. IsLost target ws w → ⊥) vs
    none [] = tt
    none (v ∷ vs) = ((λ l. l.1 m), none vs)

-- The first section whose offsets of any class are lost.
pub first_lost : (ws : List Rewrite) (tally : Tally) → HasTally ws tally → IsFirst (HasLostOffsets ws) ws (lost_at Refuse tally)
first_lost ws tally h =
    let at = λ (t : Target). lost_of t ws (found_of t tally).is_moved (found_of t tally).holder (h.found t).holder (h.found t).moved in
    first_map
    (λ w. IsLost CodeAndData ws w ⊎ (IsLost Relocated ws w ⊎ IsLost Module ws w))
    (HasLostOffsets ws)
    to
    (λ w l. back w l.0 l.1 l.2)
    ws
    (lost_at Refuse tally)
    (first_either (IsLost CodeAndData ws) (λ w. IsLost Relocated ws w ⊎ IsLost Module ws w) ws (lost tally.code_and_data) (earlier (lost tally.relocated) (lost tally.in_module))
    (at CodeAndData)
    (first_either (IsLost Relocated ws) (IsLost Module ws) ws (lost tally.relocated) (lost tally.in_module) (at Relocated) (at Module)))
  where
    to : (w : Rewrite) → IsLost CodeAndData ws w ⊎ (IsLost Relocated ws w ⊎ IsLost Module ws w) → HasLostOffsets ws w
    to w (inl l) = (CodeAndData, l.0, l.1)
    to w (inr (inl l)) = (Relocated, l.0, l.1)
    to w (inr (inr l)) = (Module, l.0, l.1)

    back : (w : Rewrite) (target : Target) → IsInto target w → (StayInModule target ws → ⊥) → IsLost CodeAndData ws w ⊎ (IsLost Relocated ws w ⊎ IsLost Module ws w)
    back w CodeAndData i m = inl (i, m)
    back w Relocated i m = inr (inl (i, m))
    back w Module i m = inr (inr (i, m))

-- Offsets that are not lost are kept.
pub not_lost : (ws : List Rewrite) (tally : Tally) → HasTally ws tally → (w : Rewrite) → (HasLostOffsets ws w → ⊥) → KeepsOffsets ws w
not_lost ws tally h w n = λ target i. stays target (found_of target tally).is_moved (h.found target).moved (λ m. n (target, i, m))
  where
    stays : (target : Target) (b : Bool) → MatchBool b (StayInModule target ws → ⊥) (StayInModule target ws) → ((StayInModule target ws → ⊥) → ⊥) → StayInModule target ws
    stays target true m k = absurd (k m)
    stays target false m k = m

-- ---- the tally of sections that are encoded

nothing_found : (target : Target) → HasFound target [] (record { holder = None; is_moved = false })
nothing_found target = record { holder = tt; moved = tt }

-- The tally of no sections.
abbrev pub nothing : Tally
nothing = record {
  sections = 0;
  kept = 0;
  code_and_data = record { holder = None; is_moved = false };
  relocated = record { holder = None; is_moved = false };
  in_module = record { holder = None; is_moved = false };
}

pub nothing_known : HasTally [] nothing
nothing_known = record { sections = refl; kept = refl; found = each }
  where
    each : (target : Target) → HasFound target [] (found_of target nothing)
    each CodeAndData = nothing_found CodeAndData
    each Relocated = nothing_found Relocated
    each Module = nothing_found Module

kept_more : (ws : List Rewrite) (w : Rewrite) → count_kept (ws ++ w ∷ []) ≡ count_kept ws + keeps w.how
kept_more [] w = omega arith
kept_more (v ∷ ws) w = omega (arith, kept_more ws w)

-- The tally of one more section.
pub tally_more : (ws : List Rewrite) (w : Rewrite) (old new : Tally) → HasTally ws old → new.sections ≡ old.sections + 1 → new.kept ≡ old.kept + keeps w.how → HasFound CodeAndData (ws ++ w ∷ []) new.code_and_data → HasFound Relocated (ws ++ w ∷ []) new.relocated → HasFound Module (ws ++ w ∷ []) new.in_module
    → HasTally (ws ++ w ∷ []) new
tally_more ws w old new h s k c r m = record { sections = omega (arith, s, h.sections, length-append ws (w ∷ [])); kept = k ∙ ap (λ z. z + keeps w.how) h.kept ∙ sym (kept_more ws w); found = each }
  where
    each : (target : Target) → HasFound target (ws ++ w ∷ []) (found_of target new)
    each CodeAndData = c
    each Relocated = r
    each Module = m
