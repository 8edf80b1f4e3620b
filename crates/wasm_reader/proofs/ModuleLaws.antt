-- This file proves that a module has one list of lines or stops at one section.
use Rattle.wasm_base.proofs.Words.{◌≡◌, ◌≢◌, ℕ, List, [], ◌∷◌, ◌++◌, length, map, zero, suc, refl, sym, ap, subst, ◌∙◌, append_assoc, append-nil, append_cancel_left, padded, Format, byte, fixed}
use Rattle.wasm_base.proofs.Words.{header, members, Decodes, Rejects, DeterminesPrefix, BeginsWith, size_prefixed_bytes_unambiguous, byte_unambiguous, begins_then, same_pair}
use Rattle.wasm_reader.specs.{kind_of_id, Contents, content, sized_section, sized_module, line_of, HasLines, StopsAt, HaveOneListing}
use Rattle.wasm_reader.specs.declared.modules.Listed.{Listed}
use Rattle.wasm_reader.proofs.KindLaws.{content_whole}

-- ---- a section

pub sized_unambiguous : DeterminesPrefix (sized_section padded)
sized_unambiguous s t r q x y h g e =
    let id = byte_unambiguous.unique padded h.front g.front (h.back ++ r) (g.back ++ q) x.0 y.0 h.first g.first (sym (append_assoc h.front h.back r) ∙ ap (λ z. z ++ r) (sym h.joined) ∙ e ∙ ap (λ z. z ++ q) g.joined ∙ append_assoc g.front g.back q) in
    let a = h.second in
    let b = g.second in
    let sized = size_prefixed_bytes_unambiguous.unique padded h.back g.back r q a.payload b.payload a.sized b.sized id.2 in
    let held : content (kind_of_id x.0) padded a.payload y.1.1 = subst (λ z. content (kind_of_id z) padded a.payload y.1.1) (sym id.0) (subst (λ z. content (kind_of_id y.0) padded z y.1.1) (sym sized.0) b.contains) in
    let same : x.1.1 ≡ y.1.1 = (content_whole (kind_of_id x.0)).whole padded a.payload x.1.1 y.1.1 a.contains held in
    let size : x.1.0 ≡ y.1.0 = sym a.size ∙ ap length sized.0 ∙ b.size in (
      same_pair x y id.0 (same_pair x.1 y.1 size same),
      h.joined ∙ ap (λ z. z ++ h.back) id.1 ∙ ap (λ z. g.front ++ z) sized.1 ∙ sym g.joined,
      sized.2,
    )

byte_begins : BeginsWith (λ b. Unit {0}) byte
byte_begins mode s x e = (x, [], e, tt)

section_begins : BeginsWith (λ b. Unit {0}) sized_section
section_begins = begins_then (λ b. Unit {0}) byte_begins

-- ---- sections one after another

-- Either no bytes remain, or nothing decodes from them.
abbrev pub Stops : {X : Type 0} → Format X → List ℕ → Type 0
Stops F rest = rest ≢ [] → Rejects F padded rest

pub no_front : {X : Type 0} {F : Format X} → BeginsWith (λ b. Unit {0}) F → (s r : List ℕ) (x : X) → F padded s x → s ++ r ≡ [] → ⊥
no_front begins s r x h e = let b = begins padded s x h in cc (sym (ap (λ z. z ++ r) b.2) ∙ e)

pub one_way : {X : Type 0} (F : Format X) → DeterminesPrefix (F padded) → BeginsWith (λ b. Unit {0}) F → (s t last q : List ℕ) (xs ys : List X) → members F padded s xs → members F padded t ys → s ++ last ≡ t ++ q → Stops F last → Stops F q → (xs ≡ ys) × (last ≡ q)
one_way F unique begins s t last q [] [] h g e n m = (refl, ap (λ z. z ++ last) (sym h) ∙ e ∙ ap (λ z. z ++ q) g)
one_way F unique begins s t last q [] (y ∷ ys) h g e n m =
    let joined : last ≡ g.0 ++ (g.1 ++ q) = ap (λ z. z ++ last) (sym h) ∙ e ∙ ap (λ z. z ++ q) g.2 ∙ append_assoc g.0 g.1 q in
    let some : last ≢ [] = λ z. no_front begins g.0 (g.1 ++ q) y g.3 (sym joined ∙ z) in
    absurd ((n some).none y (g.1 ++ q) (record { front = g.0; split = joined; encodes = g.3 }))
one_way F unique begins s t last q (x ∷ xs) [] h g e n m =
    let joined : q ≡ h.0 ++ (h.1 ++ last) = ap (λ z. z ++ q) (sym g) ∙ sym e ∙ ap (λ z. z ++ last) h.2 ∙ append_assoc h.0 h.1 last in
    let some : q ≢ [] = λ z. no_front begins h.0 (h.1 ++ last) x h.3 (sym joined ∙ z) in
    absurd ((m some).none x (h.1 ++ last) (record { front = h.0; split = joined; encodes = h.3 }))
one_way F unique begins s t last q (x ∷ xs) (y ∷ ys) h g e n m =
    let a = unique h.0 g.0 (h.1 ++ last) (g.1 ++ q) x y h.3 g.3 (sym (append_assoc h.0 h.1 last) ∙ ap (λ z. z ++ last) (sym h.2) ∙ e ∙ ap (λ z. z ++ q) g.2 ∙ append_assoc g.0 g.1 q) in
    let rest = one_way F unique begins h.1 g.1 last q xs ys h.4 g.4 a.2 n m in
    (ap (λ z. z ∷ xs) a.0 ∙ ap (λ z. y ∷ z) rest.0, rest.1)

-- ---- modules

-- The sections after the header.
behind : {bytes rest : List ℕ} {sections : List (ℕ × (ℕ × Contents))} → Decodes sized_module padded bytes sections rest → (s : List ℕ) × (bytes ≡ header ++ (s ++ rest)) × members sized_section padded s sections
behind {rest = rest} {sections = sections} h =
    let p = h.encodes in
    let t = p.2 in
    (t.back, h.split ∙ ap (λ z. z ++ rest) (t.joined ∙ ap (λ z. z ++ t.back) t.first.0) ∙ append_assoc header t.back rest, subst (λ z. members sized_section padded t.back z) p.1 t.second)

pub one_module : (bytes last q : List ℕ) (xs ys : List (ℕ × (ℕ × Contents))) → Decodes sized_module padded bytes xs last → Decodes sized_module padded bytes ys q → Stops sized_section last → Stops sized_section q → xs ≡ ys
one_module bytes last q xs ys h g n m =
    let a = behind h in
    let b = behind g in
    (one_way sized_section sized_unambiguous section_begins a.0 b.0 last q xs ys a.2 b.2 (append_cancel_left header (a.0 ++ last) (b.0 ++ q) (sym a.1 ∙ b.1)) n m).0

whole : {bytes : List ℕ} {xs : List (ℕ × (ℕ × Contents))} → sized_module padded bytes xs → Decodes sized_module padded bytes xs []
whole {bytes = bytes} h = record { front = bytes; split = sym (append-nil bytes); encodes = h }

none_left : Stops sized_section []
none_left n = absurd (n refl)

no_header : {bytes last : List ℕ} {xs : List (ℕ × (ℕ × Contents))} → Decodes sized_module padded bytes xs last → Rejects (fixed header (tt {0})) padded bytes → ⊥
no_header {last = last} h n = let a = behind h in n.none tt (a.0 ++ last) (record { front = header; split = a.1; encodes = (refl, refl) })

pub one_listing : HaveOneListing
one_listing = record {
  lines = λ bytes a b h g. h.same ∙ ap (map line_of) (one_module bytes [] [] h.sections g.sections (whole h.read) (whole g.read) none_left none_left) ∙ sym g.same;
  either = either;
  position = position;
}
  where
    either : (bytes : List ℕ) (a : List Listed) (position : ℕ) → HasLines bytes a → StopsAt bytes position → ⊥
    either bytes a zero h n = no_header (whole h.read) n
    either bytes a (suc k) h s =
        let u = behind (whole h.read) in
        let v = behind s.read in
        s.more (sym (one_way sized_section sized_unambiguous section_begins u.0 v.0 [] s.rest h.sections s.sections u.2 v.2 (append_cancel_left header (u.0 ++ []) (v.0 ++ s.rest) (sym u.1 ∙ v.1)) none_left (λ m. s.none)).1)

    position : (bytes : List ℕ) (p q : ℕ) → StopsAt bytes p → StopsAt bytes q → p ≡ q
    position bytes zero zero h g = refl
    position bytes zero (suc q) h g = absurd (no_header g.read h)
    position bytes (suc p) zero h g = absurd (no_header h.read g)
    position bytes (suc p) (suc q) h g = ap suc (sym h.counted ∙ ap length (one_module bytes h.rest g.rest h.sections g.sections h.read g.read (λ m. h.none) (λ m. g.none)) ∙ g.counted)
