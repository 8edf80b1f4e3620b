-- This file proves the steps of the loop over the sections of a module that are changed.
use Rattle.wasm_base.proofs.Words.{◌≡◌, ℕ, List, [], ◌∷◌, ◌++◌, true, false, inl, inr, refl, sym, ap, subst, ◌∙◌, append-nil, append_assoc, flat_map, header, wasm_module, DecodesWhole, DecodesOneMore}
use Rattle.std.specs.List.{AllByRecursion}
use Rattle.std.proofs.lemmas.Grind.{flat_map-append}
use Rattle.wasm_reader.specs.Iterating.{GivesSection, ahead}
use Rattle.wasm_reader.specs.Outlines.{Section, IsSection, bytes_of}
use Rattle.wasm_reader.specs.Shortening.{contains_offsets}
use Rattle.wasm_reader.specs.Iterating.{Iterating, Located}
use Rattle.wasm_reader.specs.declared.whole.Offsets.{Offsets}
use Rattle.wasm_reader.specs.declared.whole.Offsets.TheVariants.{Refuse, LeaveOut}
use Rattle.wasm_remap.specs.Sections.{AreChanged, ChangesModule}

-- The sections from `start` on, up to `rest`; the new bytes are a module of the changed ones.
pub record HasChanged (R : Section → List ℕ → Type 0) (offsets : Offsets) (start rest new : List ℕ) : Type 0 where
  pub olds : List Section
  pub joined : start ≡ flat_map bytes_of olds ++ rest
  pub each : AllByRecursion IsSection olds
  pub news : List (ℕ × List ℕ)
  pub are : AreChanged R olds news
  pub refused : offsets ≡ Refuse → AllByRecursion (λ s. contains_offsets s.name ≡ false) olds
  pub decodes : DecodesWhole wasm_module new news

pub changed_start : (R : Section → List ℕ → Type 0) (offsets : Offsets) (start new : List ℕ) → DecodesWhole wasm_module new [] → HasChanged R offsets start start new
changed_start R offsets start new h = record { olds = []; joined = refl; each = tt; news = []; are = refl; refused = λ e. tt; decodes = h }

are_more : (R : Section → List ℕ → Type 0) (olds : List Section) (news more : List (ℕ × List ℕ)) (s : Section) → AreChanged R olds news → AreChanged R (s ∷ []) more → AreChanged R (olds ++ s ∷ []) (news ++ more)
are_more R [] news more s h g = subst (λ z. AreChanged R (s ∷ []) (z ++ more)) (sym h) g
are_more R (o ∷ olds) news more s (inl h) g = inl (h.0, are_more R olds news more s h.1 g)
are_more R (o ∷ olds) news more s (inr h) g = inr (h.0, h.1 ++ more, h.2, ap (λ z. z ++ more) h.3, h.4, are_more R olds h.1 more s h.5 g)

pub all_more : {X : Type 0} (P : X → Type 0) (xs : List X) (x : X) → AllByRecursion P xs → P x → AllByRecursion P (xs ++ x ∷ [])
all_more P [] x h p = (p, tt)
all_more P (y ∷ xs) x h p = (h.0, all_more P xs x h.1 p)

pub joined_more : (olds : List Section) (start rest after : List ℕ) (s : Section) → start ≡ flat_map bytes_of olds ++ rest → rest ≡ bytes_of s ++ after → start ≡ flat_map bytes_of (olds ++ s ∷ []) ++ after
joined_more olds start rest after s e g =
    let front = flat_map bytes_of olds in
    let more : flat_map bytes_of (olds ++ s ∷ []) ≡ front ++ bytes_of s = flat_map-append bytes_of olds (s ∷ []) ∙ ap (λ z. front ++ z) (append-nil (bytes_of s)) in
    e ∙ ap (λ z. front ++ z) g ∙ sym (append_assoc front (bytes_of s) after) ∙ ap (λ z. z ++ after) (sym more)

-- A section that holds offsets is left out.
pub changed_out : {R : Section → List ℕ → Type 0} {offsets : Offsets} {start new : List ℕ} {old after : Iterating} {s : Located} → HasChanged R offsets start (ahead old) new → GivesSection old s after → contains_offsets s.section.name ≡ true → offsets ≡ LeaveOut → HasChanged R offsets start (ahead after) new
changed_out {R = R} {offsets = offsets} {start = start} {new = new} {old = old} {after = after} {s = s} h g holds out = record {
  olds = h.olds ++ s.section ∷ [];
  joined = joined_more h.olds start (ahead old) (ahead after) s.section h.joined g.split;
  each = all_more IsSection h.olds s.section h.each g.is_section;
  news = h.news ++ [];
  are = are_more R h.olds h.news [] s.section h.are (inl (holds, refl));
  refused = λ e. absurd (no_refusal (sym e ∙ out));
  decodes = subst (λ z. DecodesWhole wasm_module new z) (sym (append-nil h.news)) h.decodes;
}
  where
    no_refusal : Refuse ≡ LeaveOut → ⊥
    no_refusal e = cc e

-- Another section is changed.
pub changed_kept : {R : Section → List ℕ → Type 0} {offsets : Offsets} {start before new payload : List ℕ} {old after : Iterating} {s : Located} → HasChanged R offsets start (ahead old) before → GivesSection old s after → contains_offsets s.section.name ≡ false → R s.section payload → DecodesOneMore (λ p. p ≡ payload) s.section.id before new → HasChanged R offsets start (ahead after) new
changed_kept {R = R} {offsets = offsets} {start = start} {before = before} {new = new} {payload = payload} {old = old} {after = after} {s = s} h g none r more = record {
  olds = h.olds ++ s.section ∷ [];
  joined = joined_more h.olds start (ahead old) (ahead after) s.section h.joined g.split;
  each = all_more IsSection h.olds s.section h.each g.is_section;
  news = h.news ++ (s.section.id, payload) ∷ [];
  are = are_more R h.olds h.news ((s.section.id, payload) ∷ []) s.section h.are (inr (payload, [], none, refl, r, refl));
  refused = λ e. all_more (λ z. contains_offsets z.name ≡ false) h.olds s.section (h.refused e) none;
  decodes = more.for_each h.news payload h.decodes refl;
}

pub changed_done : (bytes : List ℕ) {R : Section → List ℕ → Type 0} {offsets : Offsets} {start rest new : List ℕ} → bytes ≡ header ++ start → HasChanged R offsets start rest new → rest ≡ [] → ChangesModule R offsets bytes new
changed_done bytes e h l = record {
  olds = h.olds;
  has = record { joined = e ∙ ap (λ z. header ++ z) (h.joined ∙ ap (λ z. flat_map bytes_of h.olds ++ z) l ∙ append-nil (flat_map bytes_of h.olds)); each = h.each };
  news = h.news;
  are = h.are;
  refused = h.refused;
  decodes = h.decodes;
}

-- What holds of each changed section.
are_each : {R Q : Section → List ℕ → Type 0} → ((s : Section) (payload : List ℕ) → R s payload → Q s payload) → (olds : List Section) (news : List (ℕ × List ℕ)) → AreChanged R olds news → AreChanged Q olds news
are_each {R = R} {Q = Q} f [] news h = h
are_each {R = R} {Q = Q} f (o ∷ olds) news (inl h) = inl (h.0, are_each {R = R} {Q = Q} f olds news h.1)
are_each {R = R} {Q = Q} f (o ∷ olds) news (inr h) = inr (h.0, h.1, h.2, h.3, f o h.0 h.4, are_each {R = R} {Q = Q} f olds h.1 h.5)

pub changes_each : {R Q : Section → List ℕ → Type 0} {offsets : Offsets} {bytes new : List ℕ} → ((s : Section) (payload : List ℕ) → R s payload → Q s payload) → ChangesModule R offsets bytes new → ChangesModule Q offsets bytes new
changes_each {R = R} {Q = Q} f h = record { olds = h.olds; has = h.has; news = h.news; are = are_each {R = R} {Q = Q} f h.olds h.news h.are; refused = h.refused; decodes = h.decodes }
