-- This file proves the laws of flags, tags and one-byte codes.
use Rattle.wasm_base.proofs.Std.{◌≡◌, ◌≢◌, inl, inr, ℕ, List, [], ◌∷◌, ◌++◌, Bool, true, false, Option, Some, None, refl, sym, ap, subst, ◌∙◌, ne_eqb}
use Rattle.wasm_base.specs.{Mode, Format, byte, optional, tagged, when, impossible, choice, coded, one_of, fixed, Unambiguous, BeginsWith, Decodes, Rejects}
use Rattle.wasm_base.proofs.FormatLaws.{byte_unambiguous}
use Rattle.wasm_base.proofs.DecodingSteps.{decodes_same, then_decodes, then_rejects_first, then_rejects_second, mapped_decodes, mapped_rejects}

-- ---- tags

pub tagged_decodes : {m : Mode} {X Y : Type 0} {F : Format X} {G : X → Format Y} {bytes rest last : List ℕ} {x : X} {y : Y} → Decodes F m bytes x rest → Decodes (G x) m rest y last → Decodes (tagged F G) m bytes y last
tagged_decodes h g = mapped_decodes (λ p. p.1) (then_decodes h g)

pub tagged_none : {m : Mode} {X Y : Type 0} (F : Format X) (G : X → Format Y) (bytes : List ℕ) → Rejects F m bytes → Rejects (tagged F G) m bytes
tagged_none F G bytes none = mapped_rejects (λ p. p.1) (then_rejects_first none)

pub tagged_rejects : {m : Mode} {X Y : Type 0} {F : Format X} {G : X → Format Y} {bytes rest : List ℕ} {x : X} → Unambiguous F → Decodes F m bytes x rest → Rejects (G x) m rest → Rejects (tagged F G) m bytes
tagged_rejects k h none = mapped_rejects (λ p. p.1) (then_rejects_second k h none)

-- The byte is none of these tags.
abbrev pub IsOther : {X : Type 0} → List (ℕ × Format X) → ℕ → Type 0
IsOther [] b = Unit {0}
IsOther (c ∷ cs) b = (b ≢ c.0) × IsOther cs b

pub choice_other : {X : Type 0} (cs : List (ℕ × Format X)) (other : ℕ → Format X) (b : ℕ) → IsOther cs b → choice cs other b ≡ other b
choice_other [] other b h = refl
choice_other (c ∷ cs) other b h = ap (λ t. when t c.1 (choice cs other b)) (ne_eqb b c.0 h.0) ∙ choice_other cs other b h.1

pub impossible_rejects : {m : Mode} {X : Type 0} (bytes : List ℕ) → Rejects (impossible {X = X}) m bytes
impossible_rejects bytes = record { none = λ x rest h. h.encodes }

pub no_choice : {m : Mode} {X : Type 0} (cs : List (ℕ × Format X)) (b : ℕ) (bytes : List ℕ) → IsOther cs b → Rejects (choice cs (λ c. impossible) b) m bytes
no_choice {m = m} {X} cs b bytes h = subst (λ F. Rejects {X = X} F m bytes) (sym (choice_other cs (λ c. impossible) b h)) (impossible_rejects bytes)

pub fixed_decodes : {m : Mode} {X : Type 0} (bytes : List ℕ) (v : X) → Decodes (fixed [] v) m bytes v bytes
fixed_decodes bytes v = record { front = []; split = refl; encodes = (refl, refl) }

-- ---- optional values

pub optional_some : {m : Mode} {X : Type 0} (F : Format X) (flag : Bool) (bytes rest : List ℕ) (x : X) → flag ≡ true → Decodes F m bytes x rest → Decodes (optional flag F) m bytes (Some x) rest
optional_some {m = m} F flag bytes rest x e h = subst (λ z. Decodes (optional z F) m bytes (Some x) rest) (sym e) (mapped_decodes Some h)

pub optional_none : {m : Mode} {X : Type 0} (F : Format X) (flag : Bool) (bytes : List ℕ) → flag ≡ false → Decodes (optional flag F) m bytes None bytes
optional_none {m = m} {X} F flag bytes e =
    let absent : Option X = None in
    subst (λ z. Decodes (optional z F) m bytes absent bytes) (sym e) (fixed_decodes bytes absent)

pub optional_rejects : {m : Mode} {X : Type 0} (F : Format X) (flag : Bool) (bytes : List ℕ) → flag ≡ true → Rejects F m bytes → Rejects (optional flag F) m bytes
optional_rejects {m = m} F flag bytes e none = subst (λ z. Rejects (optional z F) m bytes) (sym e) (mapped_rejects Some none)

pub ruleset optional_steps = (optional_some, optional_none, optional_rejects)

-- ---- one of two formats

pub one_of_rejects : {m : Mode} {X : Type 0} {F G : Format X} {bytes : List ℕ} → Rejects F m bytes → Rejects G m bytes → Rejects (one_of F G) m bytes
one_of_rejects f g = record {
  none = λ x rest h. elim h.encodes [ inl s ↦ f.none x rest (record { front = h.front; split = h.split; encodes = s }) | inr s ↦ g.none x rest (record { front = h.front; split = h.split; encodes = s }) ];
}

pub one_of_left : {m : Mode} {X : Type 0} {F : Format X} (G : Format X) {bytes rest : List ℕ} {x : X} → Decodes F m bytes x rest → Decodes (one_of F G) m bytes x rest
one_of_left G h = record { front = h.front; split = h.split; encodes = inl h.encodes }

pub one_of_right : {m : Mode} {X : Type 0} (F : Format X) {G : Format X} {bytes rest : List ℕ} {x : X} → Decodes G m bytes x rest → Decodes (one_of F G) m bytes x rest
one_of_right F h = record { front = h.front; split = h.split; encodes = inr h.encodes }

-- ---- the first byte

pub first_byte : {m : Mode} {X : Type 0} {P : ℕ → Type 0} {F : Format X} {bytes rest last : List ℕ} {b : ℕ} {x : X} → BeginsWith P F → Decodes byte m bytes b rest → Decodes F m bytes x last → P b
first_byte {m = m} {P = P} {last = last} {x = x} begins h g =
    let s = begins m g.front x g.encodes in
    let first : Decodes byte m _ s.0 (s.1 ++ last) = record { front = s.0 ∷ []; split = g.split ∙ ap (λ z. z ++ last) s.2; encodes = refl } in
    subst P (decodes_same byte_unambiguous first h).0 s.3

pub not_begun : {m : Mode} {X : Type 0} (P : ℕ → Type 0) (F : Format X) {bytes rest : List ℕ} {b : ℕ} → BeginsWith P F → Decodes byte m bytes b rest → (P b → ⊥) → Rejects F m bytes
not_begun P F begins h other = record { none = λ x last g. other (first_byte {P = P} {F = F} begins h g) }

pub no_bytes : {m : Mode} {X : Type 0} (P : ℕ → Type 0) (F : Format X) {bytes : List ℕ} → BeginsWith P F → Rejects byte m bytes → Rejects F m bytes
no_bytes {m = m} P F begins none = record {
  none = λ x last g.
      let s = begins m g.front x g.encodes in
      none.none s.0 (s.1 ++ last) (record { front = s.0 ∷ []; split = g.split ∙ ap (λ z. z ++ last) s.2; encodes = refl });
}

-- ---- codes of one byte

pub code_decodes : {m : Mode} {X : Type 0} (code : X → ℕ) (bytes rest : List ℕ) (b : ℕ) (x : X) → Decodes byte m bytes b rest → b ≡ code x → Decodes (coded code) m bytes x rest
code_decodes code bytes rest b x h e = record { front = h.front; split = h.split; encodes = h.encodes ∙ ap (λ z. z ∷ []) e }

pub code_none : {m : Mode} {X : Type 0} (code : X → ℕ) (bytes : List ℕ) → Rejects byte m bytes → Rejects (coded code) m bytes
code_none code bytes none = record { none = λ x rest h. none.none (code x) rest (record { front = h.front; split = h.split; encodes = h.encodes }) }

pub code_unknown : {m : Mode} {X : Type 0} (code : X → ℕ) (bytes rest : List ℕ) (b : ℕ) → Decodes byte m bytes b rest → ((x : X) → b ≢ code x) → Rejects (coded code) m bytes
code_unknown code bytes rest b h other = record { none = λ x last g. other x (decodes_same byte_unambiguous h (record { front = g.front; split = g.split; encodes = g.encodes })).0 }
