-- This file proves that the combinators keep a format unambiguous.
use Rattle.wasm_base.proofs.Std.{◌≡◌, ◌≢◌, ℕ, ◌<◌, List, [], ◌∷◌, ◌++◌, length, Bool, true, false, eqb, Some, None, refl, sym, ap, ap₂, subst, ◌∙◌, append_assoc, append-nil, le_refl, arith, inl, inr}
use Rattle.wasm_base.proofs.Std.{eqb-true, append_cancel_left}
use Rattle.std.proofs.lemmas.List.{length-append}
use Rattle.wasm_base.specs.{Mode, minimal, padded, Grammar, Below, minimal_of, padded_of, standard_minimal, standard, builders, admitted, Format, u32, AreBytes, byte, any_bytes, raw_bytes, bytes_sum}
use Rattle.wasm_base.specs.{little_endian, when, Then, pair, mapped, such, fixed, impossible, tagged, members, vec, size_prefixed, ended, optional, one_of, coded, choice, prefixed, by_mode}
use Rattle.wasm_base.specs.{DeterminesPrefix, DeterminesWhole, HasOneEncoding, IsIncludedIn, ShrinksTo, HasEncodings, Unambiguous, UnambiguousWhole, BeginsWith}
use Rattle.wasm_base.proofs.NumberLaws.{u32_unambiguous, u32-less, below_cases}

-- ---- lists

regroup : (s a b r : List ℕ) → s ≡ a ++ b → s ++ r ≡ a ++ (b ++ r)
regroup s a b r e = rw e (append_assoc a b r)

parts : (s t a b c d r q : List ℕ) → s ≡ a ++ b → t ≡ c ++ d → s ++ r ≡ t ++ q → a ++ (b ++ r) ≡ c ++ (d ++ q)
parts s t a b c d r q h k e = sym (regroup s a b r h) ∙ e ∙ regroup t c d q k

same_joined : (s t a b c d : List ℕ) → s ≡ a ++ b → t ≡ c ++ d → a ≡ c → b ≡ d → s ≡ t
same_joined s t a b c d h k p q = h ∙ ap₂ ◌++◌ p q ∙ sym k

pub same_pair : {X Y : Type 0} (p q : X × Y) → p.0 ≡ q.0 → p.1 ≡ q.1 → p ≡ q
same_pair p q e f = λ i. (e i, f i)

-- ---- the first byte

pub begins_weaker : {X : Type 0} (P Q : ℕ → Type 0) {F : Format X} → ((b : ℕ) → P b → Q b) → BeginsWith P F → BeginsWith Q F
begins_weaker P Q {F} f h mode s x k = let b = h mode s x k in (b.0, b.1, b.2, f b.0 b.3)

pub begins_then : {X Y : Type 0} (P : ℕ → Type 0) {F : Format X} {G : X → Format Y} → BeginsWith P F → BeginsWith P (Then F G)
begins_then P {F} {G} h mode s p k = let b = h mode k.front p.0 k.first in (b.0, b.1 ++ k.back, k.joined ∙ ap (λ z. z ++ k.back) b.2, b.3)

pub begins_mapped : {X Y : Type 0} (P : ℕ → Type 0) (f : X → Y) {F : Format X} → BeginsWith P F → BeginsWith P (mapped f F)
begins_mapped P f {F} h mode s y k = h mode s k.0 k.2

pub begins_such : {X : Type 0} (P : ℕ → Type 0) (Q : X → Type 0) {F : Format X} → BeginsWith P F → BeginsWith P (such Q F)
begins_such P Q {F} h mode s x k = h mode s x k.0

pub begins_fixed : {X : Type 0} (P : ℕ → Type 0) (b : ℕ) (bs : List ℕ) (v : X) → P b → BeginsWith P (fixed (b ∷ bs) v)
begins_fixed P b bs v h mode s x k = (b, bs, k.0, h)

pub begins_coded : {X : Type 0} (P : ℕ → Type 0) (code : X → ℕ) → ((x : X) → P (code x)) → BeginsWith P (coded code)
begins_coded P code h mode s x k = (code x, [], k, h x)

pub begins_one_of : {X : Type 0} (P : ℕ → Type 0) {F G : Format X} → BeginsWith P F → BeginsWith P G → BeginsWith P (one_of F G)
begins_one_of P {F} {G} h g mode s x (inl k) = h mode s x k
begins_one_of P {F} {G} h g mode s x (inr l) = g mode s x l

-- ---- from any front to all of the bytes

pub whole_from_unique : {X : Type 0} {F : Format X} → Unambiguous F → UnambiguousWhole F
whole_from_unique {F} k = record {
  whole = λ mode s x y h g. (k.unique mode s s [] [] x y h g refl).0;
  encodings = k.encodings;
}

-- ---- one after another

pub Then-encodings : {X Y : Type 0} {F : Format X} {G : X → Format Y} → HasEncodings F → ((x : X) → HasEncodings (G x)) → HasEncodings (Then F G)
Then-encodings {F} {G} k l = record {
  one = λ w s t p h g. same_joined s t h.front h.back g.front g.back h.joined g.joined (k.one w h.front g.front p.0 h.first g.first) ((l p.0).one w h.back g.back p.1 h.second g.second);
  included = λ m n below s p h. record { front = h.front; back = h.back; joined = h.joined; first = k.included m n below h.front p.0 h.first; second = (l p.0).included m n below h.back p.1 h.second };
  shorter = λ w s p h.
      let a = k.shorter w h.front p.0 h.first in
      let b = (l p.0).shorter w h.back p.1 h.second in
      (a.0 ++ b.0, record { front = a.0; back = b.0; joined = refl; first = a.1; second = b.1 }, omega (arith, a.2, b.2, length-append a.0 b.0, ap length h.joined, length-append h.front h.back));
}

pub Then_unambiguous : {X Y : Type 0} {F : Format X} {G : X → Format Y} → Unambiguous F → ((x : X) → Unambiguous (G x)) → Unambiguous (Then F G)
Then_unambiguous {F} {G} k l = record {
  unique = λ mode s t r q p o h g e.
      let a = k.unique mode h.front g.front (h.back ++ r) (g.back ++ q) p.0 o.0 h.first g.first (parts s t h.front h.back g.front g.back r q h.joined g.joined e) in
      let b = (l p.0).unique mode h.back g.back r q p.1 o.1 h.second (subst (λ x. G x mode g.back o.1) (sym a.0) g.second) a.2 in
      (λ i. (a.0 i, b.0 i), same_joined s t h.front h.back g.front g.back h.joined g.joined a.1 b.1, b.2);
  encodings = Then-encodings k.encodings (λ x. (l x).encodings);
}

pub Then_whole : {X Y : Type 0} {F : Format X} {G : X → Format Y} → Unambiguous F → ((x : X) → UnambiguousWhole (G x)) → UnambiguousWhole (Then F G)
Then_whole {F} {G} k l = record {
  whole = λ mode s p o h g.
      let a = k.unique mode h.front g.front h.back g.back p.0 o.0 h.first g.first (sym h.joined ∙ g.joined) in
      let b = (l p.0).whole mode h.back p.1 o.1 h.second (subst (λ x. G x mode h.back o.1) (sym a.0) (subst (λ z. G o.0 mode z o.1) (sym a.2) g.second)) in
      λ i. (a.0 i, b i);
  encodings = Then-encodings k.encodings (λ x. (l x).encodings);
}

pub pair_unambiguous : {X Y : Type 0} {F : Format X} {G : Format Y} → Unambiguous F → Unambiguous G → Unambiguous (pair F G)
pair_unambiguous {F} {G} k l = Then_unambiguous k (λ x. l)

pub pair_whole : {X Y : Type 0} {F : Format X} {G : Format Y} → Unambiguous F → UnambiguousWhole G → UnambiguousWhole (pair F G)
pair_whole {F} {G} k l = Then_whole k (λ x. l)

-- ---- restrictions, choices and images

pub impossible_unambiguous : {X : Type 0} → Unambiguous (impossible {X = X})
impossible_unambiguous {X} = record {
  unique = λ mode s t r q x y h g e. absurd h;
  encodings = record { one = λ w s t x h g. absurd h; included = λ m n below s x h. absurd h; shorter = λ w s x h. absurd h };
}

pub fixed_unambiguous : {X : Type 0} (bytes : List ℕ) (v : X) → Unambiguous (fixed bytes v)
fixed_unambiguous bytes v = record {
  unique = λ mode s t r q x y h g e. (h.1 ∙ sym g.1, h.0 ∙ sym g.0, append_cancel_left bytes r q (subst (λ z. z ++ r ≡ bytes ++ q) h.0 (subst (λ z. s ++ r ≡ z ++ q) g.0 e)));
  encodings = record { one = λ w s t x h g. h.0 ∙ sym g.0; included = λ m n below s x h. h; shorter = λ w s x h. (s, h, le_refl (length s)) };
}

pub such-encodings : {X : Type 0} (P : X → Type 0) {F : Format X} → HasEncodings F → HasEncodings (such P F)
such-encodings P {F} k = record {
  one = λ w s t x h g. k.one w s t x h.0 g.0;
  included = λ m n below s x h. (k.included m n below s x h.0, h.1);
  shorter = λ w s x h. let a = k.shorter w s x h.0 in (a.0, (a.1, h.1), a.2);
}

pub such_unambiguous : {X : Type 0} (P : X → Type 0) {F : Format X} → Unambiguous F → Unambiguous (such P F)
such_unambiguous P {F} k = record {
  unique = λ mode s t r q x y h g e. k.unique mode s t r q x y h.0 g.0 e;
  encodings = such-encodings P k.encodings;
}

pub when_unambiguous : {X : Type 0} (test : Bool) {F G : Format X} → Unambiguous F → Unambiguous G → Unambiguous (when test F G)
when_unambiguous true {F} {G} k l = k
when_unambiguous false {F} {G} k l = l

abbrev pub IsInjective : {X Y : Type 0} → (X → Y) → Type 0
IsInjective {X} f = (x y : X) → f x ≡ f y → x ≡ y

pub mapped-encodings : {X Y : Type 0} (f : X → Y) {F : Format X} → IsInjective f → HasEncodings F → HasEncodings (mapped f F)
mapped-encodings f {F} i k = record {
  one = λ w s t y h g. k.one w s t h.0 h.2 (subst (λ x. F (minimal_of w) t x) (i g.0 h.0 (g.1 ∙ sym h.1)) g.2);
  included = λ m n below s y h. (h.0, h.1, k.included m n below s h.0 h.2);
  shorter = λ w s y h. let a = k.shorter w s h.0 h.2 in (a.0, (h.0, h.1, a.1), a.2);
}

pub mapped_unambiguous : {X Y : Type 0} (f : X → Y) {F : Format X} → IsInjective f → Unambiguous F → Unambiguous (mapped f F)
mapped_unambiguous f {F} i k = record {
  unique = λ mode s t r q x y h g e.
      let a = k.unique mode s t r q h.0 g.0 h.2 g.2 e in
      (sym h.1 ∙ ap f a.0 ∙ g.1, a.1, a.2);
  encodings = mapped-encodings f i k.encodings;
}

pub mapped_whole : {X Y : Type 0} (f : X → Y) {F : Format X} → IsInjective f → UnambiguousWhole F → UnambiguousWhole (mapped f F)
mapped_whole f {F} i k = record {
  whole = λ mode s x y h g. sym h.1 ∙ ap f (k.whole mode s h.0 g.0 h.2 g.2) ∙ g.1;
  encodings = mapped-encodings f i k.encodings;
}

-- The value determines the tag.
abbrev pub DeterminesTag : {X Y : Type 0} → (X → Format Y) → (Y → X) → Type 0
DeterminesTag {X} {Y} G tag = (mode : Mode) (x : X) (s : List ℕ) (y : Y) → G x mode s y → x ≡ tag y

tag_of : {X Y : Type 0} (F : Format X) (G : X → Format Y) (tag : Y → X) → DeterminesTag G tag → (mode : Mode) (s : List ℕ) (y : Y) (h : tagged F G mode s y) → h.0.0 ≡ tag y
tag_of F G tag tells mode s y h = tells mode h.0.0 h.2.back h.0.1 h.2.second ∙ ap tag h.1

pub tagged-encodings : {X Y : Type 0} {F : Format X} {G : X → Format Y} (tag : Y → X) → DeterminesTag G tag → HasEncodings F → ((x : X) → HasEncodings (G x)) → HasEncodings (tagged F G)
tagged-encodings {F} {G} tag tells k l =
    let both = Then-encodings k l in
    record {
      one = λ w s t y h g.
          let same : (g.0.0, g.0.1) ≡ (h.0.0, h.0.1) = λ i. ((tag_of F G tag tells (minimal_of w) t y g ∙ sym (tag_of F G tag tells (minimal_of w) s y h)) i, (g.1 ∙ sym h.1) i) in
          both.one w s t h.0 h.2 (subst (λ p. Then F G (minimal_of w) t p) same g.2);
      included = λ m n below s y h. (h.0, h.1, both.included m n below s h.0 h.2);
      shorter = λ w s y h. let a = both.shorter w s h.0 h.2 in (a.0, (h.0, h.1, a.1), a.2);
    }

pub tagged_unambiguous : {X Y : Type 0} {F : Format X} {G : X → Format Y} (tag : Y → X) → DeterminesTag G tag → Unambiguous F → ((x : X) → Unambiguous (G x)) → Unambiguous (tagged F G)
tagged_unambiguous {F} {G} tag tells k l = record {
  unique = λ mode s t r q x y h g e.
      let a = (Then_unambiguous k l).unique mode s t r q h.0 g.0 h.2 g.2 e in
      (sym h.1 ∙ ap (λ p. p.1) a.0 ∙ g.1, a.1, a.2);
  encodings = tagged-encodings tag tells k.encodings (λ x. (l x).encodings);
}

pub optional_unambiguous : {X : Type 0} (flag : Bool) {F : Format X} → Unambiguous F → Unambiguous (optional flag F)
optional_unambiguous flag {F} k = when_unambiguous flag (mapped_unambiguous Some (λ x y e. cc) k) (fixed_unambiguous [] None)

-- ---- two formats with different first bytes

abbrev pub AreApart : (ℕ → Type 0) → (ℕ → Type 0) → Type 0
AreApart P Q = (b : ℕ) → P b → Q b → ⊥

-- No value has encodings in both formats.
abbrev pub HaveNoneInCommon : {X : Type 0} → Format X → Format X → Type 0
HaveNoneInCommon {X} F G = (mode other : Mode) (s t : List ℕ) (x : X) → F mode s x → G other t x → ⊥

-- No bytes begin with an encoding of each format.
abbrev pub BeginNeverAlike : {X : Type 0} → Format X → Format X → Type 0
BeginNeverAlike {X} F G = (mode : Mode) (s t r u : List ℕ) (x y : X) → F mode s x → G mode t y → s ++ r ≡ t ++ u → ⊥

pub begin_apart : {X : Type 0} (P Q : ℕ → Type 0) {F G : Format X} → AreApart P Q → BeginsWith P F → BeginsWith Q G → BeginNeverAlike F G
begin_apart P Q {F} {G} apart p q mode s t r u x y h g e =
    let a = p mode s x h in
    let b = q mode t y g in
    let f : a.0 ∷ (a.1 ++ r) ≡ b.0 ∷ (b.1 ++ u) = subst (λ z. z ++ r ≡ b.0 ∷ (b.1 ++ u)) a.2 (subst (λ z. s ++ r ≡ z ++ u) b.2 e) in
    apart b.0 (subst P (cc f) a.3) b.3

pub either_unambiguous : {X : Type 0} {F G : Format X} → BeginNeverAlike F G → HaveNoneInCommon F G → Unambiguous F → Unambiguous G → Unambiguous (one_of F G)
either_unambiguous {X} {F} {G} clash none k l = record { unique = unique; encodings = record { one = one; included = included; shorter = shorter } }
  where
    unique : (mode : Mode) → DeterminesPrefix (one_of F G mode)
    unique mode s t r u x y (inl h) (inl g) e = k.unique mode s t r u x y h g e
    unique mode s t r u x y (inl h) (inr g) e = absurd (clash mode s t r u x y h g e)
    unique mode s t r u x y (inr h) (inl g) e = absurd (clash mode t s u r y x g h (sym e))
    unique mode s t r u x y (inr h) (inr g) e = l.unique mode s t r u x y h g e

    one : (w : Grammar) → HasOneEncoding (one_of F G (minimal_of w))
    one w s t x (inl h) (inl g) = k.encodings.one w s t x h g
    one w s t x (inl h) (inr g) = absurd (none (minimal_of w) (minimal_of w) s t x h g)
    one w s t x (inr h) (inl g) = absurd (none (minimal_of w) (minimal_of w) t s x g h)
    one w s t x (inr h) (inr g) = l.encodings.one w s t x h g

    included : (m n : Mode) → Below m n → IsIncludedIn (one_of F G m) (one_of F G n)
    included m n below s x (inl h) = inl (k.encodings.included m n below s x h)
    included m n below s x (inr h) = inr (l.encodings.included m n below s x h)

    shorter : (w : Grammar) → ShrinksTo (one_of F G (padded_of w)) (one_of F G (minimal_of w))
    shorter w s x (inl h) = let a = k.encodings.shorter w s x h in (a.0, inl a.1, a.2)
    shorter w s x (inr h) = let a = l.encodings.shorter w s x h in (a.0, inr a.1, a.2)

-- One of two formats with different first bytes is unambiguous in this mode.
pub one_of_unique : {X : Type 0} {F G : Format X} → BeginNeverAlike F G → (mode : Mode) → DeterminesPrefix (F mode) → DeterminesPrefix (G mode) → DeterminesPrefix (one_of F G mode)
one_of_unique clash mode k l s t r u x y (inl h) (inl g) e = k s t r u x y h g e
one_of_unique clash mode k l s t r u x y (inl h) (inr g) e = absurd (clash mode s t r u x y h g e)
one_of_unique clash mode k l s t r u x y (inr h) (inl g) e = absurd (clash mode t s u r y x g h (sym e))
one_of_unique clash mode k l s t r u x y (inr h) (inr g) e = l s t r u x y h g e

-- A format by mode is unambiguous if `F` is, `G` is the minimal part of the standard's encodings
-- `H`, and `H` includes `F`.
pub by_mode_unambiguous : {X : Type 0} (F G H : Format X) → Unambiguous F → Unambiguous G → DeterminesPrefix (H standard) → IsIncludedIn (F padded) (H standard) → IsIncludedIn (G standard_minimal) (H standard) → ShrinksTo (H standard) (G standard_minimal) → Unambiguous (by_mode F G H)
by_mode_unambiguous {X} F G H f g h admits contains shrinks = record {
  unique = unique;
  encodings = record { one = one; included = below_cases (λ m n. IsIncludedIn (by_mode F G H m) (by_mode F G H n)) (f.encodings.included minimal padded tt) contains admits; shorter = shorter };
}
  where
    unique : (mode : Mode) → DeterminesPrefix (by_mode F G H mode)
    unique minimal = f.unique minimal
    unique padded = f.unique padded
    unique standard_minimal = g.unique standard_minimal
    unique standard = h

    one : (w : Grammar) → HasOneEncoding (by_mode F G H (minimal_of w))
    one builders = f.encodings.one builders
    one admitted = g.encodings.one admitted

    shorter : (w : Grammar) → ShrinksTo (by_mode F G H (padded_of w)) (by_mode F G H (minimal_of w))
    shorter builders = f.encodings.shorter builders
    shorter admitted = shrinks

pub one_of_unambiguous : {X : Type 0} (P Q : ℕ → Type 0) {F G : Format X} → AreApart P Q → BeginsWith P F → BeginsWith Q G → HaveNoneInCommon F G → Unambiguous F → Unambiguous G → Unambiguous (one_of F G)
one_of_unambiguous P Q {F} {G} apart p q none k l = either_unambiguous (begin_apart P Q apart p q) none k l

-- ---- bytes

-- If the code determines the value, its one byte is unambiguous.
pub coded_unambiguous : {X : Type 0} (code : X → ℕ) (decode : ℕ → X) → ((x : X) → decode (code x) ≡ x) → Unambiguous (coded code)
coded_unambiguous code decode back = record {
  unique = λ mode s t r q x y h g e.
      let f : code x ∷ r ≡ code y ∷ q = subst (λ z. z ++ r ≡ code y ∷ q) h (subst (λ z. s ++ r ≡ z ++ q) g e) in
      let same : code x ≡ code y = cc f in
      (sym (back x) ∙ ap decode same ∙ back y, h ∙ ap (λ b. b ∷ []) same ∙ sym g, cc f);
  encodings = record { one = λ w s t x h g. h ∙ sym g; included = λ m n below s x h. h; shorter = λ w s x h. (s, h, le_refl (length s)) };
}

pub byte_unambiguous : Unambiguous byte
byte_unambiguous = coded_unambiguous (λ b. b) (λ b. b) (λ b. refl)

pub any_bytes_whole : UnambiguousWhole any_bytes
any_bytes_whole = record {
  whole = λ mode s x y h g. sym h ∙ g;
  encodings = record { one = λ w s t x h g. h ∙ sym g; included = λ m n below s x h. h; shorter = λ w s x h. (s, h, le_refl (length s)) };
}

-- Two fronts of the same bytes that have the same length are equal.
pub same_fronts : (a b r q : List ℕ) → length a ≡ length b → a ++ r ≡ b ++ q → (a ≡ b) × (r ≡ q)
same_fronts [] [] r q l e = (refl, e)
same_fronts [] (y ∷ b) r q l e = absurd (omega arith)
same_fronts (x ∷ a) [] r q l e = absurd (omega arith)
same_fronts (x ∷ a) (y ∷ b) r q l e =
    let more = same_fronts a b r q (omega arith) cc in
    (cc more.0, more.1)

pub raw_bytes_unambiguous : (n : ℕ) → Unambiguous (raw_bytes n)
raw_bytes_unambiguous n = record {
  unique = λ mode s t r q x y h g e.
      let a = same_fronts s t r q (ap length h.0 ∙ h.1 ∙ sym g.1 ∙ ap length (sym g.0)) e in
      (sym h.0 ∙ a.0 ∙ g.0, a.0, a.1);
  encodings = record { one = λ w s t x h g. h.0 ∙ sym g.0; included = λ m n below s x h. h; shorter = λ w s x h. (s, h, le_refl (length s)) };
}

same_bytes : (s t : List ℕ) → AreBytes s → AreBytes t → length s ≡ length t → bytes_sum s ≡ bytes_sum t → s ≡ t
same_bytes [] [] f g l e = refl
same_bytes [] (y ∷ t) f g l e = absurd (omega arith)
same_bytes (x ∷ s) [] f g l e = absurd (omega arith)
same_bytes (x ∷ s) (y ∷ t) f g l e = ap₂ ◌∷◌ (omega (arith, f.0, g.0)) (same_bytes s t f.1 g.1 (omega arith) (omega (arith, f.0, g.0)))

pub little_endian_unambiguous : (n : ℕ) → Unambiguous (little_endian n)
little_endian_unambiguous n = record {
  unique = λ mode s t r q x y h g e.
      let a = same_fronts s t r q (h.2 ∙ sym g.2) e in
      (sym h.0 ∙ ap bytes_sum a.0 ∙ g.0, a.0, a.1);
  encodings = record { one = λ w s t x h g. same_bytes s t h.1 g.1 (h.2 ∙ sym g.2) (h.0 ∙ sym g.0); included = λ m n below s x h. h; shorter = λ w s x h. (s, h, le_refl (length s)) };
}

-- ---- members

pub members-encodings : {X : Type 0} {F : Format X} → HasEncodings F → HasEncodings (members F)
members-encodings {X} {F} k = record { one = one; included = included; shorter = shorter }
  where
    one : (w : Grammar) → HasOneEncoding (members F (minimal_of w))
    one w s t [] h g = h ∙ sym g
    one w s t (x ∷ xs) h g = same_joined s t h.0 h.1 g.0 g.1 h.2 g.2 (k.one w h.0 g.0 x h.3 g.3) (one w h.1 g.1 xs h.4 g.4)

    included : (m n : Mode) → Below m n → IsIncludedIn (members F m) (members F n)
    included m n below s [] h = h
    included m n below s (x ∷ xs) h = (h.0, h.1, h.2, k.included m n below h.0 x h.3, included m n below h.1 xs h.4)

    shorter : (w : Grammar) → ShrinksTo (members F (padded_of w)) (members F (minimal_of w))
    shorter w s [] h = (s, h, le_refl (length s))
    shorter w s (x ∷ xs) h =
        let a = k.shorter w h.0 x h.3 in
        let b = shorter w h.1 xs h.4 in
        (a.0 ++ b.0, (a.0, b.0, refl, a.1, b.1), omega (arith, a.2, b.2, length-append a.0 b.0, ap length h.2, length-append h.0 h.1))

as_many : {X : Type 0} (F : Format X) → Unambiguous F → (mode : Mode) (s t r q : List ℕ) (xs ys : List X) → length xs ≡ length ys → members F mode s xs → members F mode t ys → s ++ r ≡ t ++ q → (xs ≡ ys) × (s ≡ t) × (r ≡ q)
as_many F k mode s t r q [] [] l h g e = (refl, h ∙ sym g, subst (λ z. z ++ r ≡ q) h (subst (λ z. s ++ r ≡ z ++ q) g e))
as_many F k mode s t r q [] (y ∷ ys) l h g e = absurd (omega arith)
as_many F k mode s t r q (x ∷ xs) [] l h g e = absurd (omega arith)
as_many F k mode s t r q (x ∷ xs) (y ∷ ys) l h g e =
    let a = k.unique mode h.0 g.0 (h.1 ++ r) (g.1 ++ q) x y h.3 g.3 (parts s t h.0 h.1 g.0 g.1 r q h.2 g.2 e) in
    let b = as_many F k mode h.1 g.1 r q xs ys (omega arith) h.4 g.4 a.2 in
    (ap₂ ◌∷◌ a.0 b.0, same_joined s t h.0 h.1 g.0 g.1 h.2 g.2 a.1 b.1, b.2)

pub members_whole : {X : Type 0} {F : Format X} (P : ℕ → Type 0) → BeginsWith P F → Unambiguous F → UnambiguousWhole (members F)
members_whole {X} {F} P begins k = record { whole = whole; encodings = members-encodings k.encodings }
  where
    never : (mode : Mode) (s : List ℕ) (x : X) → F mode s x → 0 < length s
    never mode s x h = let b = begins mode s x h in omega (arith, ap length b.2)

    whole : (mode : Mode) → DeterminesWhole (members F mode)
    whole mode s [] [] h g = refl
    whole mode s [] (y ∷ ys) h g = absurd (omega (arith, never mode g.0 y g.3, ap length h, ap length g.2, length-append g.0 g.1))
    whole mode s (x ∷ xs) [] h g = absurd (omega (arith, never mode h.0 x h.3, ap length g, ap length h.2, length-append h.0 h.1))
    whole mode s (x ∷ xs) (y ∷ ys) h g =
        let a = k.unique mode h.0 g.0 h.1 g.1 x y h.3 g.3 (sym h.2 ∙ g.2) in
        ap₂ ◌∷◌ a.0 (whole mode h.1 xs ys h.4 (subst (λ z. members F mode z ys) (sym a.2) g.4))

-- ---- members before a stop byte

pub ended_unambiguous : {X : Type 0} (stop : ℕ) {F : Format X} → BeginsWith (λ b. b ≢ stop) F → Unambiguous F → Unambiguous (ended stop F)
ended_unambiguous {X} stop {F} apart k = record { unique = unique; encodings = record { one = one; included = included; shorter = shorter } }
  where
    clash : (mode : Mode) (s a b r q : List ℕ) (y : X) → s ≡ stop ∷ [] → s ++ r ≡ (a ++ b) ++ q → F mode a y → ⊥
    clash mode s a b r q y h e g =
        let begins = apart mode a y g in
        let f : stop ∷ r ≡ begins.0 ∷ ((begins.1 ++ b) ++ q) = subst (λ z. z ++ r ≡ begins.0 ∷ ((begins.1 ++ b) ++ q)) h (subst (λ z. s ++ r ≡ (z ++ b) ++ q) begins.2 e) in
        begins.3 cc

    unique : (mode : Mode) → DeterminesPrefix (ended stop F mode)
    unique mode s t r q [] [] h g e = (refl, h ∙ sym g, append_cancel_left (stop ∷ []) r q (subst (λ z. z ++ r ≡ stop ∷ q) h (subst (λ z. s ++ r ≡ z ++ q) g e)))
    unique mode s t r q [] (y ∷ ys) h g e = absurd (clash mode s g.0 g.1 r q y h (subst (λ z. s ++ r ≡ z ++ q) g.2 e) g.3)
    unique mode s t r q (x ∷ xs) [] h g e = absurd (clash mode t h.0 h.1 q r x g (subst (λ z. t ++ q ≡ z ++ r) h.2 (sym e)) h.3)
    unique mode s t r q (x ∷ xs) (y ∷ ys) h g e =
        let a = k.unique mode h.0 g.0 (h.1 ++ r) (g.1 ++ q) x y h.3 g.3 (parts s t h.0 h.1 g.0 g.1 r q h.2 g.2 e) in
        let b = unique mode h.1 g.1 r q xs ys h.4 g.4 a.2 in
        (ap₂ ◌∷◌ a.0 b.0, same_joined s t h.0 h.1 g.0 g.1 h.2 g.2 a.1 b.1, b.2)

    one : (w : Grammar) → HasOneEncoding (ended stop F (minimal_of w))
    one w s t [] h g = h ∙ sym g
    one w s t (x ∷ xs) h g = same_joined s t h.0 h.1 g.0 g.1 h.2 g.2 (k.encodings.one w h.0 g.0 x h.3 g.3) (one w h.1 g.1 xs h.4 g.4)

    included : (m n : Mode) → Below m n → IsIncludedIn (ended stop F m) (ended stop F n)
    included m n below s [] h = h
    included m n below s (x ∷ xs) h = (h.0, h.1, h.2, k.encodings.included m n below h.0 x h.3, included m n below h.1 xs h.4)

    shorter : (w : Grammar) → ShrinksTo (ended stop F (padded_of w)) (ended stop F (minimal_of w))
    shorter w s [] h = (s, h, le_refl (length s))
    shorter w s (x ∷ xs) h =
        let a = k.encodings.shorter w h.0 x h.3 in
        let b = shorter w h.1 xs h.4 in
        (a.0 ++ b.0, (a.0, b.0, refl, a.1, b.1), omega (arith, a.2, b.2, length-append a.0 b.0, ap length h.2, length-append h.0 h.1))

-- ---- a count and members, a size and a payload

pub vec_unambiguous : {X : Type 0} {F : Format X} → Unambiguous F → Unambiguous (vec F)
vec_unambiguous {X} {F} k = record {
  unique = λ mode s t r q xs ys h g e.
      let a = u32_unambiguous.unique mode h.front g.front (h.back ++ r) (g.back ++ q) (length xs) (length ys) h.first g.first (parts s t h.front h.back g.front g.back r q h.joined g.joined e) in
      let b = as_many F k mode h.back g.back r q xs ys a.0 h.second g.second a.2 in
      (b.0, same_joined s t h.front h.back g.front g.back h.joined g.joined a.1 b.1, b.2);
  encodings = record {
    one = λ w s t xs h g. both.one w s t (length xs, xs) h g;
    included = λ m n below s xs h. both.included m n below s (length xs, xs) h;
    shorter = λ w s xs h. both.shorter w s (length xs, xs) h;
  };
}
  where
    both : HasEncodings (Then u32 (λ n. members F))
    both = Then-encodings u32_unambiguous.encodings (λ n. members-encodings k.encodings)

pub size_prefixed_unambiguous : {X : Type 0} {F : Format X} → UnambiguousWhole F → Unambiguous (size_prefixed F)
size_prefixed_unambiguous {F} k = record {
  unique = λ mode s t r q x y h g e.
      let a = u32_unambiguous.unique mode h.front g.front (h.content ++ r) (g.content ++ q) (length h.content) (length g.content) h.size g.size (parts s t h.front h.content g.front g.content r q h.joined g.joined e) in
      let b = same_fronts h.content g.content r q a.0 a.2 in
      (k.whole mode h.content x y h.encodes (subst (λ z. F mode z y) (sym b.0) g.encodes), same_joined s t h.front h.content g.front g.content h.joined g.joined a.1 b.0, b.1);
  encodings = record {
    one = λ w s t x h g.
        let same = k.encodings.one w h.content g.content x h.encodes g.encodes in
        same_joined s t h.front h.content g.front g.content h.joined g.joined (u32_unambiguous.encodings.one w h.front g.front (length h.content) h.size (subst (λ z. u32 (minimal_of w) g.front (length z)) (sym same) g.size)) same;
    included = λ m n below s x h. record { front = h.front; content = h.content; joined = h.joined; size = u32_unambiguous.encodings.included m n below h.front (length h.content) h.size; encodes = k.encodings.included m n below h.content x h.encodes };
    shorter = λ w s x h.
        let b = k.encodings.shorter w h.content x h.encodes in
        let a = u32-less w h.front (length h.content) (length b.0) b.2 h.size in
        (a.0 ++ b.0, record { front = a.0; content = b.0; joined = refl; size = a.1; encodes = b.1 }, omega (arith, a.2, b.2, length-append a.0 b.0, ap length h.joined, length-append h.front h.content));
  };
}

pub prefixed_unambiguous : {X : Type 0} (bytes : List ℕ) {F : Format X} → Unambiguous F → Unambiguous (prefixed bytes F)
prefixed_unambiguous bytes {F} k = tagged_unambiguous (λ x. tt {0}) (λ mode u s y h. refl) (fixed_unambiguous bytes (tt {0})) (λ u. k)

-- A format that takes all of the bytes remains unambiguous after fixed bytes.
pub prefixed_whole : {X : Type 0} (bytes : List ℕ) {F : Format X} → UnambiguousWhole F → UnambiguousWhole (prefixed bytes F)
prefixed_whole bytes {F} f = mapped_whole (λ p. p.1) (λ x y e. λ i. (tt, e i)) (pair_whole (fixed_unambiguous bytes (tt {0})) f)

-- ---- numeric tags

abbrev pub AllUnambiguous : {X : Type 0} → List (ℕ × Format X) → Type 0
AllUnambiguous [] = Unit {0}
AllUnambiguous (c ∷ cs) = Unambiguous c.1 × AllUnambiguous cs

-- The values of the format determine its tag.
abbrev pub Determines : {X : Type 0} → (X → ℕ) → ℕ → Format X → Type 0
Determines {X} tag b F = (mode : Mode) (s : List ℕ) (x : X) → F mode s x → b ≡ tag x

abbrev pub AllDetermine : {X : Type 0} → (X → ℕ) → List (ℕ × Format X) → Type 0
AllDetermine tag [] = Unit {0}
AllDetermine tag (c ∷ cs) = Determines tag c.0 c.1 × AllDetermine tag cs

abbrev pub AllTags : {X : Type 0} → (ℕ → Type 0) → List (ℕ × Format X) → Type 0
AllTags P [] = Unit {0}
AllTags P (c ∷ cs) = P c.0 × AllTags P cs

pub choice_unambiguous : {X : Type 0} (cs : List (ℕ × Format X)) (other : ℕ → Format X) → AllUnambiguous cs → ((b : ℕ) → Unambiguous (other b)) → (b : ℕ) → Unambiguous (choice cs other b)
choice_unambiguous [] other all rest b = rest b
choice_unambiguous (c ∷ cs) other all rest b = when_unambiguous (eqb b c.0) all.0 (choice_unambiguous cs other all.1 rest b)

pub choice_determines : {X : Type 0} (tag : X → ℕ) (cs : List (ℕ × Format X)) (other : ℕ → Format X) → AllDetermine tag cs → ((b : ℕ) → Determines tag b (other b)) → DeterminesTag (choice cs other) tag
choice_determines tag [] other all rest mode b s x h = rest b mode s x h
choice_determines {X} tag (c ∷ cs) other all rest mode b s x h = go (choice_determines tag cs other all.1 rest mode b s x) (eqb b c.0) refl h
  where
    go : (choice cs other b mode s x → b ≡ tag x) → (test : Bool) → eqb b c.0 ≡ test → when test c.1 (choice cs other b) mode s x → b ≡ tag x
    go more true e w = eqb-true b c.0 e ∙ all.0 mode s x w
    go more false e w = more w

pub choice_tags : {X : Type 0} (P : ℕ → Type 0) (cs : List (ℕ × Format X)) (other : ℕ → Format X) → AllTags P cs → ((b : ℕ) (mode : Mode) (s : List ℕ) (x : X) → other b mode s x → P b) → (b : ℕ) (mode : Mode) (s : List ℕ) (x : X) → choice cs other b mode s x → P b
choice_tags P [] other all rest b mode s x h = rest b mode s x h
choice_tags {X} P (c ∷ cs) other all rest b mode s x h = go (choice_tags P cs other all.1 rest b mode s x) (eqb b c.0) refl h
  where
    go : (choice cs other b mode s x → P b) → (test : Bool) → eqb b c.0 ≡ test → when test c.1 (choice cs other b) mode s x → P b
    go more true e w = subst P (sym (eqb-true b c.0 e)) all.0
    go more false e w = more w

pub choice_begins : {X : Type 0} (P : ℕ → Type 0) (cs : List (ℕ × Format X)) (other : ℕ → Format X) → AllTags P cs → ((b : ℕ) (mode : Mode) (s : List ℕ) (x : X) → other b mode s x → P b) → BeginsWith P (tagged byte (choice cs other))
choice_begins P cs other all rest mode s x k = (k.0.0, k.2.back, k.2.joined ∙ ap (λ z. z ++ k.2.back) k.2.first, choice_tags P cs other all rest k.0.0 mode k.2.back k.0.1 k.2.second)

-- All values of the format have the property.
abbrev pub AllValues : {X : Type 0} → (X → Type 0) → Format X → Type 0
AllValues {X} Q F = (mode : Mode) (s : List ℕ) (x : X) → F mode s x → Q x

abbrev pub AllChoices : {X : Type 0} → (X → Type 0) → List (ℕ × Format X) → Type 0
AllChoices Q [] = Unit {0}
AllChoices Q (c ∷ cs) = AllValues Q c.1 × AllChoices Q cs

choice_values : {X : Type 0} (Q : X → Type 0) (cs : List (ℕ × Format X)) (other : ℕ → Format X) → AllChoices Q cs → ((b : ℕ) → AllValues Q (other b)) → (b : ℕ) → AllValues Q (choice cs other b)
choice_values Q [] other all rest b mode s x h = rest b mode s x h
choice_values {X} Q (c ∷ cs) other all rest b mode s x h = go (choice_values Q cs other all.1 rest b mode s x) (eqb b c.0) h
  where
    go : (choice cs other b mode s x → Q x) → (test : Bool) → when test c.1 (choice cs other b) mode s x → Q x
    go more true w = all.0 mode s x w
    go more false w = more w

pub values_tagged : {X : Type 0} (Q : X → Type 0) (cs : List (ℕ × Format X)) → AllChoices Q cs → AllValues Q (tagged byte (choice cs (λ b. impossible)))
values_tagged Q cs all mode s x h = subst Q h.1 (choice_values Q cs (λ b. impossible) all (λ b mode s x h. absurd h) h.0.0 mode h.2.back h.0.1 h.2.second)

pub values_mapped : {X Y : Type 0} (Q : Y → Type 0) (f : X → Y) (F : Format X) → ((x : X) → Q (f x)) → AllValues Q (mapped f F)
values_mapped Q f F h mode s y k = subst Q k.1 (h k.0)

pub values_one_of : {X : Type 0} (Q : X → Type 0) {F G : Format X} → AllValues Q F → AllValues Q G → AllValues Q (one_of F G)
values_one_of Q {F} {G} h g mode s x (inl k) = h mode s x k
values_one_of Q {F} {G} h g mode s x (inr l) = g mode s x l

pub none_in_common : {X : Type 0} (Q R : X → Type 0) {F G : Format X} → ((x : X) → Q x → R x → ⊥) → AllValues Q F → AllValues R G → HaveNoneInCommon F G
none_in_common Q R {F} {G} h q r mode other s t x k l = h x (q mode s x k) (r other t x l)

-- A choice by a tag that the value determines is unambiguous.
pub choice_of : {X : Type 0} (head : Format ℕ) (tag : X → ℕ) (cs : List (ℕ × Format X)) → Unambiguous head → AllUnambiguous cs → AllDetermine tag cs → Unambiguous (tagged head (choice cs (λ b. impossible)))
choice_of head tag cs heads all tells = tagged_unambiguous tag (choice_determines tag cs (λ b. impossible) tells (λ b mode s x h. absurd h)) heads (choice_unambiguous cs (λ b. impossible) all (λ b. impossible_unambiguous))

-- ---- longer encodings, and encodings with a known front

-- A value that decodes from the front of bytes with a known front is the known one.
pub at_front : {X : Type 0} {F : Format X} → Unambiguous F → (mode : Mode) (a b rest : List ℕ) (x y : X) → F mode a x → (e : a ++ rest ≡ b) → (s back : List ℕ) → b ≡ s ++ back → F mode s y → (y ≡ x) × (back ≡ rest)
at_front {F} k mode a b rest x y known e s back split h =
    let r = k.unique mode a s rest back x y known h (e ∙ split) in
    (sym r.0, sym r.2)

-- The members of a longer encoding continue where those of the shorter one end.
pub members_go_on : {X : Type 0} {F : Format X} (P : ℕ → Type 0) → BeginsWith P F → Unambiguous F → (mode : Mode) (a b : List ℕ) (xs ys : List X) → members F mode a xs → members F mode (a ++ b) ys → (zs : List X) × (ys ≡ xs ++ zs) × members F mode b zs
members_go_on {F} P begins k mode a b [] ys h g = (ys, refl, subst (λ z. members F mode (z ++ b) ys) h g)
members_go_on {F} P begins k mode a b (x ∷ xs) [] h g =
    let f = begins mode h.0 x h.3 in
    absurd (omega (arith, ap length g, ap length h.2, ap length f.2, length-append a b, length-append h.0 h.1))
members_go_on {F} P begins k mode a b (x ∷ xs) (y ∷ ys) h g =
    let r = k.unique mode h.0 g.0 (h.1 ++ b) g.1 x y h.3 g.3 (sym (regroup a h.0 h.1 b h.2) ∙ g.2) in
    let more = members_go_on P begins k mode h.1 b xs ys h.4 (subst (λ z. members F mode z ys) (sym r.2) g.4) in
    let head : y ≡ x = sym r.0 in
    let tail : ys ≡ xs ++ more.0 = more.1 in
    (more.0, cc (head, tail), more.2)

-- The payload of size-prefixed bytes whose size is the byte `n` encodes the value.
pub size_prefixed_of : {X : Type 0} {F : Format X} (mode : Mode) (n : ℕ) (content rest s back : List ℕ) (x : X) → u32 mode (n ∷ []) n → length content ≡ n → (n ∷ content) ++ rest ≡ s ++ back → size_prefixed F mode s x → F mode content x
size_prefixed_of {F} mode n content rest s back x known l e h =
    let a = u32_unambiguous.unique mode (n ∷ []) h.front (content ++ rest) (h.content ++ back) n (length h.content) known h.size (e ∙ regroup s h.front h.content back h.joined) in
    let b = same_fronts content h.content rest back (l ∙ a.0) a.2 in
    subst (λ z. F mode z x) (sym b.0) h.encodes

-- A vector whose count is the byte 1 has one member.
pub vec_of_one : {X : Type 0} {F : Format X} (mode : Mode) (content : List ℕ) (xs : List X) → u32 mode (1 ∷ []) 1 → vec F mode (1 ∷ content) xs → (x : X) × F mode content x
vec_of_one {X} {F} mode content xs known h =
    let a = u32_unambiguous.unique mode (1 ∷ []) h.front content h.back 1 (length xs) known h.first h.joined in
    go xs (sym a.0) (subst (λ z. members F mode z xs) (sym a.2) h.second)
  where
    go : (xs : List X) → length xs ≡ 1 → members F mode content xs → (x : X) × F mode content x
    go [] l g = absurd (omega arith)
    go (x ∷ []) l g = (x, subst (λ z. F mode z x) (sym (g.2 ∙ ap (λ z. g.0 ++ z) g.4 ∙ append-nil g.0)) g.3)
    go (x ∷ y ∷ xs) l g = absurd (omega arith)

-- ---- decoding after a known front

-- If the front encodes `x`, the second value of the pair decodes after it.
pub then_at : {X Y : Type 0} {F : Format X} {G : X → Format Y} → Unambiguous F → (mode : Mode) (a : List ℕ) (x : X) → F mode a x → (rest s back : List ℕ) (p : X × Y) → a ++ rest ≡ s ++ back → Then F G mode s p → (t : List ℕ) × (rest ≡ t ++ back) × G x mode t p.1
then_at {G = G} k mode a x known rest s back p e h =
    let r = k.unique mode a h.front rest (h.back ++ back) x p.0 known h.first (e ∙ regroup s h.front h.back back h.joined) in
    (h.back, r.2, subst (λ z. G z mode h.back p.1) (sym r.0) h.second)

pub tagged_at : {X Y : Type 0} {F : Format X} {G : X → Format Y} → Unambiguous F → (mode : Mode) (a : List ℕ) (x : X) → F mode a x → (rest s back : List ℕ) (y : Y) → a ++ rest ≡ s ++ back → tagged F G mode s y → (t : List ℕ) × (rest ≡ t ++ back) × G x mode t y
tagged_at {G = G} k mode a x known rest s back y e h =
    let r = then_at k mode a x known rest s back h.0 e h.2 in
    (r.0, r.1, subst (λ z. G x mode r.0 z) h.1 r.2)

-- If members encode bytes that begin with a byte, a first member begins with it.
pub member_at : {X : Type 0} (F : Format X) (mode : Mode) (b : ℕ) (rest s : List ℕ) (xs : List X) → b ∷ rest ≡ s → members F mode s xs → (front back : List ℕ) × (x : X) × (b ∷ rest ≡ front ++ back) × F mode front x
member_at F mode b rest s [] e h = absurd (cc (e, h))
member_at F mode b rest s (x ∷ xs) e h = (h.0, h.1, x, e ∙ h.2, h.3)
