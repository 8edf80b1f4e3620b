-- This file proves of formats that a value has an encoding after a map of its indices, of at most 32
-- times as many bytes.
use Rattle.wasm_base.proofs.Words.{◌≡◌, ℕ, ◌+◌, ◌*◌, ◌^◌, ◌≤◌, ◌<◌, List, [], ◌∷◌, ◌++◌, length, map, Bool, true, false, Some, None, eqb, inl, inr, refl, sym, ap, subst, ◌∙◌, arith, length-append, lit<, index_is, pos}
use Rattle.std.specs.Option.{option_map}
use Rattle.std.proofs.lemmas.List.{length-map}
use Rattle.wasm_base.specs.Formats.{Format, u32, s33, fixed, impossible, such, when, mapped, Then, pair, tagged, choice, prefixed, members, vec, size_prefixed, ended, optional, one_of}
use Rattle.wasm_base.specs.Numbers.{standard_minimal, unsigned_encoding, signed_encoding, AreGroups}
use Rattle.wasm_base.proofs.EncodingLaws.{u32_encodes, s33_encodes}
use Rattle.wasm_base.proofs.NumberEncodings.{length-groups_encoding-le}
use Rattle.wasm_base.proofs.GrammarLaws.{u32_both, s33_both}

-- The bytes are the minimal encoding of the value in the standard's grammar, and at most 32 times as
-- many as `n`.
abbrev pub MappedForm : {X : Type 0} (F : Format X) (n : ℕ) (x : X) → Type 0
MappedForm F n x = (t : List ℕ) × F standard_minimal t x × (length t ≤ 32 * n)

-- Each value with fewer than 2^26 bytes has an encoding after the map.
pub record Maps {X : Type 0} (f : X → X) (F : Format X) : Type 0 where
  pub form : (s : List ℕ) (x : X) → length s < 2 ^ 26 → F standard_minimal s x → MappedForm F (length s) (f x)

-- ---- combinators

pub kept : {X : Type 0} {F : Format X} → Maps (λ x. x) F
kept {F = F} = record { form = λ s x l h. (s, h, omega (arith)) }

-- The map does not change a value of the format.
pub unchanged : {X : Type 0} {f : X → X} {F : Format X} → ((s : List ℕ) (x : X) → F standard_minimal s x → f x ≡ x) → Maps f F
unchanged {F = F} e = record { form = λ s x l h. (s, subst (λ y. F standard_minimal s y) (sym (e s x h)) h, omega (arith)) }

pub fixed_maps : {X : Type 0} {f : X → X} (bytes : List ℕ) (v : X) → f v ≡ v → Maps f (fixed bytes v)
fixed_maps {f = f} bytes v e = record { form = λ s x l h. (s, (h.0, ap f h.1 ∙ e), omega (arith)) }

pub impossible_maps : {X : Type 0} {f : X → X} → Maps f (impossible {X = X})
impossible_maps = record { form = λ s x l h. absurd h }

pub such_maps : {X : Type 0} {f : X → X} (P : X → Type 0) {F : Format X} → ((x : X) → P x → P (f x)) → Maps f F → Maps f (such P F)
such_maps P {F} e k = record { form = λ s x l h. let a = k.form s x l h.0 in (a.0, (a.1, e x h.1), a.2) }

pub when_maps : {X : Type 0} {f : X → X} (test : Bool) {F G : Format X} → Maps f F → Maps f G → Maps f (when test F G)
when_maps true {F} {G} k l = k
when_maps false {F} {G} k l = l

pub mapped_maps : {X Y : Type 0} {f : Y → Y} (g : X → Y) (h : X → X) {F : Format X} → ((x : X) → f (g x) ≡ g (h x)) → Maps h F → Maps f (mapped g F)
mapped_maps {f = f} g h {F} e k = record { form = λ s y l i. let a = k.form s i.0 l i.2 in (a.0, (h i.0, sym (e i.0) ∙ ap f i.1, a.1), a.2) }

pub pair_maps : {X Y : Type 0} {f : X → X} {g : X → Y → Y} {F : Format X} {G : Format Y} → Maps f F → ((x : X) → Maps (g x) G) → Maps (λ p. (f p.0, g p.0 p.1)) (pair F G)
pair_maps {F = F} {G = G} k j = record {
  form = λ s p l h.
      let size : length s ≡ length h.front + length h.back = ap length h.joined ∙ length-append h.front h.back in
      let a = k.form h.front p.0 (omega (arith, l, size)) h.first in
      let b = (j p.0).form h.back p.1 (omega (arith, l, size)) h.second in
      (a.0 ++ b.0, record { front = a.0; back = b.0; joined = refl; first = a.1; second = b.1 }, omega (arith, a.2, b.2, length-append a.0 b.0, size));
}

-- The first value stays, and selects the format of the second.
pub then_maps : {X Y : Type 0} {g : X → Y → Y} {F : Format X} {G : X → Format Y} → ((x : X) → Maps (g x) (G x)) → Maps (λ p. (p.0, g p.0 p.1)) (Then F G)
then_maps {F = F} {G = G} j = record {
  form = λ s p l h.
      let size : length s ≡ length h.front + length h.back = ap length h.joined ∙ length-append h.front h.back in
      let b = (j p.0).form h.back p.1 (omega (arith, l, size)) h.second in
      (h.front ++ b.0, record { front = h.front; back = b.0; joined = refl; first = h.first; second = b.1 }, omega (arith, b.2, length-append h.front b.0, size));
}

pub tagged_maps : {X Y : Type 0} {f : Y → Y} {F : Format X} {G : X → Format Y} → ((x : X) → Maps f (G x)) → Maps f (tagged F G)
tagged_maps {f = f} {F = F} {G = G} k = mapped_maps (λ p. p.1) (λ p. (p.0, f p.1)) (λ p. refl) (then_maps k)

pub prefixed_maps : {X : Type 0} {f : X → X} (bytes : List ℕ) {F : Format X} → Maps f F → Maps f (prefixed bytes F)
prefixed_maps bytes {F} k = tagged_maps (λ u. k)

-- The same of all formats that the tags select.
abbrev pub AllMaps : {X : Type 0} → (X → X) → List (ℕ × Format X) → Type 0
AllMaps f [] = Unit {0}
AllMaps f (c ∷ cs) = Maps f c.1 × AllMaps f cs

pub choice_maps : {X : Type 0} {f : X → X} (cs : List (ℕ × Format X)) (other : ℕ → Format X) → AllMaps f cs → ((b : ℕ) → Maps f (other b)) → (b : ℕ) → Maps f (choice cs other b)
choice_maps [] other all k b = k b
choice_maps (c ∷ cs) other all k b = when_maps (eqb b c.0) all.0 (choice_maps cs other all.1 k b)

-- A tag, and the value whose format the tag selects.
pub selected_maps : {X : Type 0} {f : X → X} {F : Format ℕ} (cs : List (ℕ × Format X)) → AllMaps f cs → Maps f (tagged F (choice cs (λ b. impossible)))
selected_maps cs all = tagged_maps (choice_maps cs (λ b. impossible) all (λ b. impossible_maps))

-- What the format that a tag selects gives.
abbrev pub AllGive : {X : Type 0} → (List ℕ → X → Type 0) → List (ℕ × Format X) → Type 0
AllGive Q [] = Unit {0}
AllGive {X} Q (c ∷ cs) = ((t : List ℕ) (x : X) → c.1 standard_minimal t x → Q t x) × AllGive Q cs

pub chosen_gives : {X : Type 0} (Q : List ℕ → X → Type 0) (cs : List (ℕ × Format X)) → AllGive Q cs → (b : ℕ) (t : List ℕ) (x : X) → choice cs (λ b. impossible) b standard_minimal t x → Q t x
chosen_gives Q [] all b t x h = absurd h
chosen_gives {X} Q (c ∷ cs) all b t x h = go (chosen_gives Q cs all.1 b t x) (eqb b c.0) h
  where
    go : (choice cs (λ b. impossible) b standard_minimal t x → Q t x) → (test : Bool) → when test c.1 (choice cs (λ b. impossible) b) standard_minimal t x → Q t x
    go more true w = all.0 t x w
    go more false w = more w

pub one_of_maps : {X : Type 0} {f : X → X} {F G : Format X} → Maps f F → Maps f G → Maps f (one_of F G)
one_of_maps {X} {f} {F} {G} k j = record { form = form }
  where
    form : (s : List ℕ) (x : X) → length s < 2 ^ 26 → one_of F G standard_minimal s x → MappedForm (one_of F G) (length s) (f x)
    form s x l (inl h) = let a = k.form s x l h in (a.0, inl a.1, a.2)
    form s x l (inr h) = let a = j.form s x l h in (a.0, inr a.1, a.2)

pub optional_maps : {X : Type 0} {f : X → X} (flag : Bool) {F : Format X} → Maps f F → Maps (option_map f) (optional flag F)
optional_maps {f = f} flag {F} k = when_maps flag (mapped_maps Some f (λ x. refl) k) (fixed_maps [] None refl)

pub members_maps : {X : Type 0} {f : X → X} {F : Format X} → Maps f F → Maps (map f) (members F)
members_maps {X} {f} {F} k = record { form = form }
  where
    form : (s : List ℕ) (xs : List X) → length s < 2 ^ 26 → members F standard_minimal s xs → MappedForm (members F) (length s) (map f xs)
    form s [] l h = (s, h, omega (arith))
    form s (x ∷ xs) l h =
        let size : length s ≡ length h.0 + length h.1 = ap length h.2 ∙ length-append h.0 h.1 in
        let a = k.form h.0 x (omega (arith, l, size)) h.3 in
        let b = form h.1 xs (omega (arith, l, size)) h.4 in
        (a.0 ++ b.0, (a.0, b.0, refl, a.1, b.1), omega (arith, a.2, b.2, length-append a.0 b.0, size))

pub vec_maps : {X : Type 0} {f : X → X} {F : Format X} → Maps f F → Maps (map f) (vec F)
vec_maps {X} {f} {F} k = record {
  form = λ s xs l h.
      let both : Maps (λ p. (p.0, map f p.1)) (Then u32 (λ n. members F)) = then_maps (λ n. members_maps k) in
      let a = both.form s (length xs, xs) l h in
      (a.0, subst (λ n. Then u32 (λ m. members F) standard_minimal a.0 (n, map f xs)) (sym (length-map xs f)) a.1, a.2);
}

pub ended_maps : {X : Type 0} {f : X → X} (stop : ℕ) {F : Format X} → Maps f F → Maps (map f) (ended stop F)
ended_maps {X} {f} stop {F} k = record { form = form }
  where
    form : (s : List ℕ) (xs : List X) → length s < 2 ^ 26 → ended stop F standard_minimal s xs → MappedForm (ended stop F) (length s) (map f xs)
    form s [] l h = (s, h, omega (arith))
    form s (x ∷ xs) l h =
        let size : length s ≡ length h.0 + length h.1 = ap length h.2 ∙ length-append h.0 h.1 in
        let a = k.form h.0 x (omega (arith, l, size)) h.3 in
        let b = form h.1 xs (omega (arith, l, size)) h.4 in
        (a.0 ++ b.0, (a.0, b.0, refl, a.1, b.1), omega (arith, a.2, b.2, length-append a.0 b.0, size))

-- ---- numbers

pub some_groups : (s : List ℕ) → AreGroups s → 1 ≤ length s
some_groups [] h = absurd h
some_groups (b ∷ bs) h = omega (arith)

pub number_length : (n : ℕ) → n < 2 ^ 32 → length (unsigned_encoding n) ≤ 5
number_length n h = length-groups_encoding-le false 0x80 4 n (lit< tt) (omega (arith, h))

pub u32_maps : (f : ℕ → ℕ) → ((n : ℕ) → n < 2 ^ 32 → f n < 2 ^ 32) → Maps f u32
u32_maps f small = record {
  form = λ s n l h.
      let k = small n h.range in
      (unsigned_encoding (f n), u32_both.same (unsigned_encoding (f n)) (f n) (u32_encodes (f n) k), omega (arith, number_length (f n) k, some_groups s h.groups));
}

pub s33_maps : (f : ℕ → ℕ) → ((n : ℕ) → n < 2 ^ 32 → f n < 2 ^ 32) → Maps f s33
s33_maps f small = record {
  form = λ s n l h.
      let k = small n (index_is standard_minimal s n h) in
      let short : length (signed_encoding (pos (f n))) ≤ 5 = length-groups_encoding-le false 0x40 4 (f n) (lit< tt) (omega (arith, k)) in
      (signed_encoding (pos (f n)), s33_both.same (signed_encoding (pos (f n))) (f n) (s33_encodes (f n) k), omega (arith, short, some_groups s h.groups));
}

pub u32_encoded : (n : ℕ) → n < 2 ^ 32 → u32 standard_minimal (unsigned_encoding n) n
u32_encoded n h = u32_both.same (unsigned_encoding n) n (u32_encodes n h)

pub size_prefixed_maps : {X : Type 0} {f : X → X} {F : Format X} → Maps f F → Maps f (size_prefixed F)
size_prefixed_maps {f = f} {F = F} k = record {
  form = λ s x l h.
      let size : length s ≡ length h.front + length h.content = ap length h.joined ∙ length-append h.front h.content in
      let a = k.form h.content x (omega (arith, l, size)) h.encodes in
      let small : length a.0 < 2 ^ 32 = omega (arith, a.2, l, size) in
      let front = unsigned_encoding (length a.0) in (
        front ++ a.0,
        record { front = front; content = a.0; joined = refl; size = u32_both.same front (length a.0) (u32_encodes (length a.0) small); encodes = a.1 },
        omega (arith, length-append front a.0, number_length (length a.0) small, some_groups h.front h.size.groups, a.2, size),
      );
}
