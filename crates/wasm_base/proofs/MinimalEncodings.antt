-- This file proves that minimizers append the one minimal encoding of a decoded value, component by
-- component.
use Rattle.wasm_base.proofs.Std.{Result, Ok, Err, ◌≡◌, ℕ, ◌+◌, ◌<◌, ◌≤◌, List, [], ◌∷◌, ◌++◌, length, take, drop, get_or, map, refl, sym, ap, ap₂, subst, ◌∙◌, append_assoc, append-nil, All, flat_map}
use Rattle.wasm_base.proofs.Std.{Vec, All-head, All-tail, drop_at, take_at, map-append, length-map, take_more, take_all}
use Rattle.wasm_base.specs.{Mode, minimal, padded, Grammar, builders, admitted, minimal_of, padded_of, unsigned_encoding, Format, u32, fixed, mapped, Then, pair, prefixed, tagged, members, vec, size_prefixed, Appends, size_prefixed_encoding}
use Rattle.wasm_base.specs.{HasEncodableSize, vec_encoding, IsEncodableVec, Grammars, builders_alone, both_grammars, Includes, common_grammars, AppendsMinimal, IsFrontOf, IsMinimalEncoding, EncodesMinimally}
use Rattle.wasm_base.specs.declared.refused.Refused.{Refused}
use Rattle.wasm_base.proofs.EncodingLaws.{size_prefixed_in}
use Rattle.wasm_base.proofs.GrammarLaws.{u32_canonical}

-- ---- the old bytes at the front

pub front_more : (old more new : List ℕ) → new ≡ old ++ more → IsFrontOf old new
front_more old more new e = (more, e)

pub front_same : (old new : List ℕ) → new ≡ old → IsFrontOf old new
front_same old new e = ([], e ∙ sym (append-nil old))

pub front_then : (old middle new : List ℕ) → IsFrontOf old middle → IsFrontOf middle new → IsFrontOf old new
front_then old middle new a b = (a.0 ++ b.0, b.1 ∙ ap (λ z. z ++ b.0) a.1 ∙ append_assoc old a.0 b.0)

-- A call that appends, or leaves the bytes as they were, keeps the old bytes at the front.
pub front_encoded : {A : Type 0} (encoding : List ℕ) (encodable : Type 0) (old new : Vec ℕ A) (r : Result (Unit {0}) Refused) → Appends encoding encodable old new r → IsFrontOf old.items new.items
front_encoded encoding encodable old new (Ok u) a = (encoding, a.ok)
front_encoded encoding encodable old new (Err e) a = front_same old.items new.items a.err

pub front_appended : {k : Grammars} {X : Type 0} (F : Format X) (x : X) (old new : List ℕ) → AppendsMinimal k F x old new → IsFrontOf old new
front_appended F x old new a = (a.encoding, a.appended)

pub ruleset front_steps = (front_more, front_same, front_then, front_encoded, front_appended)

-- One encoding is appended after the other.
pub appended_then : (a b old middle new : List ℕ) → middle ≡ old ++ a → new ≡ middle ++ b → new ≡ old ++ (a ++ b)
appended_then a b old middle new e f = f ∙ ap (λ z. z ++ b) e ∙ append_assoc old a b

-- Truncation to the old length removes all that a call has appended.
pub cut_off : (old new : List ℕ) → IsFrontOf old new → take (length old) new ≡ old
cut_off old new h = ap (take (length old)) h.1 ∙ take_at old h.0 (length old) refl

-- ---- encodings

-- An encoding that is minimal for every decoded value.
pub encoding_appended : {k : Grammars} {X : Type 0} (F : Format X) (x : X) (encoding old new : List ℕ) → IsMinimalEncoding k F x encoding → new ≡ old ++ encoding → AppendsMinimal k F x old new
encoding_appended F x encoding old new short e = record { encoding = encoding; appended = e; encodes = short }

-- An encoding that is minimal in the builders' grammar.
pub built_encoding : {X : Type 0} (F : Format X) (x : X) (encoding : List ℕ) → ((s : List ℕ) → F padded s x → F minimal encoding x) → IsMinimalEncoding builders_alone F x encoding
built_encoding F x encoding short builders q s h = short s h
built_encoding F x encoding short admitted q s h = absurd q

pub built_appended : {X : Type 0} (F : Format X) (x : X) (encoding old new : List ℕ) → ((s : List ℕ) → F padded s x → F minimal encoding x) → new ≡ old ++ encoding → AppendsMinimal builders_alone F x old new
built_appended F x encoding old new short e = encoding_appended F x encoding old new (built_encoding F x encoding short) e

-- A call that writes the minimal encoding in some grammars does so in fewer.
pub fewer_appended : {k l : Grammars} {X : Type 0} {F : Format X} {x : X} {old new : List ℕ} → ((w : Grammar) → Includes k w → Includes l w) → AppendsMinimal l F x old new → AppendsMinimal k F x old new
fewer_appended fewer a = record { encoding = a.encoding; appended = a.appended; encodes = λ w q. a.encodes w (fewer w q) }

pub left_included : (k l : Grammars) (w : Grammar) → Includes (common_grammars k l) w → Includes k w
left_included builders_alone l w q = q
left_included both_grammars l w q = tt

pub right_included : (k l : Grammars) (w : Grammar) → Includes (common_grammars k l) w → Includes l w
right_included builders_alone builders_alone w q = q
right_included builders_alone both_grammars w q = tt
right_included both_grammars l w q = q

-- The encoding of a value that encodes minimally.
pub canonical_appended : {k : Grammars} {T X : Type 0} (F : Format X) (view : T → X) (encoding : T → List ℕ) (x : T) (old new : List ℕ) → EncodesMinimally F view encoding → new ≡ old ++ encoding x → AppendsMinimal k F (view x) old new
canonical_appended F view encoding x old new k e = encoding_appended F (view x) (encoding x) old new (λ w q s h. k.minimal_in w s x h) e

-- Nothing is appended for a value whose encoding is empty.
pub nothing_appended : {k : Grammars} {X : Type 0} (F : Format X) (x : X) (old : List ℕ) → IsMinimalEncoding k F x [] → AppendsMinimal k F x old old
nothing_appended F x old short = encoding_appended F x [] old old short (sym (append-nil old))

-- One value, then another.
module _ {X Y : Type 0} {x : X} {y : Y} {old middle new : List ℕ} where
  pub then_appended : {k : Grammars} (F : Format X) (G : X → Format Y) → AppendsMinimal k F x old middle → AppendsMinimal k (G x) y middle new → AppendsMinimal k (Then F G) (x, y) old new
  then_appended F G a b = record {
    encoding = a.encoding ++ b.encoding;
    appended = b.appended ∙ ap (λ z. z ++ b.encoding) a.appended ∙ append_assoc old a.encoding b.encoding;
    encodes = λ w q s h. record { front = a.encoding; back = b.encoding; joined = refl; first = a.encodes w q h.front h.first; second = b.encodes w q h.back h.second };
  }

  pub pair_appended : {k : Grammars} (F : Format X) (G : Format Y) → AppendsMinimal k F x old middle → AppendsMinimal k G y middle new → AppendsMinimal k (pair F G) (x, y) old new
  pair_appended F G a b = then_appended F (λ x. G) a b

  pub pair_in_common : {k l : Grammars} (F : Format X) (G : Format Y) → AppendsMinimal k F x old middle → AppendsMinimal l G y middle new → AppendsMinimal (common_grammars k l) (pair F G) (x, y) old new
  pair_in_common {k} {l} F G a b = pair_appended F G (fewer_appended (left_included k l) a) (fewer_appended (right_included k l) b)

  -- A tag that the value determines, then the value.
  pub tagged_appended : {k : Grammars} (F : Format X) (G : X → Format Y) → ((mode : Mode) (s : List ℕ) (z : X) → G z mode s y → z ≡ x) → AppendsMinimal k F x old middle → AppendsMinimal k (G x) y middle new → AppendsMinimal k (tagged F G) y old new
  tagged_appended F G same_tag a b =
      let both = then_appended F G a b in
      record {
        encoding = both.encoding;
        appended = both.appended;
        encodes = λ w q s h.
            let is : h.0 ≡ (x, y) = λ i. (same_tag (padded_of w) h.2.back h.0.0 (subst (λ z. G h.0.0 (padded_of w) h.2.back z) h.1 h.2.second) i, h.1 i) in
            ((x, y), refl, both.encodes w q s (subst (λ z. Then F G (padded_of w) s z) is h.2));
      }

-- Fixed bytes, then a value.
pub prefixed_appended : {k : Grammars} {X : Type 0} (head : List ℕ) (F : Format X) (x : X) (old middle new : List ℕ) → middle ≡ old ++ head → AppendsMinimal k F x middle new → AppendsMinimal k (prefixed head F) x old new
prefixed_appended head F x old middle new e a = tagged_appended (fixed head (tt {0})) (λ u. F) (λ mode s z h. refl) (encoding_appended (fixed head (tt {0})) tt head old middle (λ w q s h. (refl, refl)) e) a

-- The image of a value by an injective function.
pub mapped_appended : {k : Grammars} {X Y : Type 0} (f : X → Y) (F : Format X) (x : X) (old new : List ℕ) → ((z : X) → f z ≡ f x → z ≡ x) → AppendsMinimal k F x old new → AppendsMinimal k (mapped f F) (f x) old new
mapped_appended f F x old new apart a = record { encoding = a.encoding; appended = a.appended; encodes = λ w q s h. (x, refl, a.encodes w q s (subst (λ z. F (padded_of w) s z) (apart h.0 h.1) h.2)) }

-- ---- members of a vector

members_before : {X : Type 0} (F : Format X) (mode : Mode) (xs : List X) (x : X) (s : List ℕ) → members F mode s (xs ++ x ∷ []) → (front back : List ℕ) × members F mode front xs × F mode back x
members_before F mode [] x s h = ([], h.0, refl, h.3)
members_before F mode (y ∷ xs) x s h = let more = members_before F mode xs x h.1 h.4 in (h.0 ++ more.0, more.1, (h.0, more.0, refl, h.3, more.2), more.3)

members_last : {X : Type 0} (F : Format X) (mode : Mode) (xs : List X) (x : X) (s t : List ℕ) → members F mode s xs → F mode t x → members F mode (s ++ t) (xs ++ x ∷ [])
members_last F mode [] x s t h g = (t, [], ap (λ z. z ++ t) h ∙ sym (append-nil t), g, refl)
members_last F mode (y ∷ xs) x s t h g = (h.0, h.1 ++ t, ap (λ z. z ++ t) h.2 ∙ append_assoc h.0 h.1 t, h.3, members_last F mode xs x h.1 t h.4 g)

pub no_members_appended : {k : Grammars} {X : Type 0} (F : Format X) (old : List ℕ) → AppendsMinimal k (members F) [] old old
no_members_appended F old = nothing_appended (members F) [] old (λ w q s h. refl)

pub members_more : {k : Grammars} {X : Type 0} (F : Format X) (xs : List X) (x : X) (old middle new : List ℕ) → AppendsMinimal k (members F) xs old middle → AppendsMinimal k F x middle new → AppendsMinimal k (members F) (xs ++ x ∷ []) old new
members_more F xs x old middle new a b = record {
  encoding = a.encoding ++ b.encoding;
  appended = b.appended ∙ ap (λ z. z ++ b.encoding) a.appended ∙ append_assoc old a.encoding b.encoding;
  encodes = λ w q s h. let parts = members_before F (padded_of w) xs x s h in members_last F (minimal_of w) xs x a.encoding b.encoding (a.encodes w q parts.0 parts.2) (b.encodes w q parts.1 parts.3);
}

-- A loop over a list has appended the first `i` members.
module _ {T X : Type 0} (F : Format X) (view : T → X) (xs : List T) where
  pub next_appended : {k : Grammars} (i : ℕ) (x : T) (old middle new : List ℕ) → i < length xs → x ≡ get_or xs i x → AppendsMinimal k (members F) (map view (take i xs)) old middle → AppendsMinimal k F (view x) middle new → AppendsMinimal k (members F) (map view (take (i + 1) xs)) old new
  next_appended {k = k} i x old middle new low is a b =
      let more : map view (take (i + 1) xs) ≡ map view (take i xs) ++ view x ∷ [] = ap (map view) (take_more xs i x low ∙ ap (λ z. take i xs ++ z ∷ []) (sym is)) ∙ map-append view (take i xs) (x ∷ []) in
      subst (λ z. AppendsMinimal k (members F) z old new) (sym more) (members_more F (map view (take i xs)) (view x) old middle new a b)

  pub all_appended : {k : Grammars} (i : ℕ) (old new : List ℕ) → length xs ≤ i → AppendsMinimal k (members F) (map view (take i xs)) old new → AppendsMinimal k (members F) (map view xs) old new
  all_appended {k = k} i old new l a = subst (λ z. AppendsMinimal k (members F) (map view z) old new) (take_all i xs l) a

  pub vec_appended : {k : Grammars} (old middle new : List ℕ) → middle ≡ old ++ unsigned_encoding (length xs) → AppendsMinimal k (members F) (map view xs) middle new → AppendsMinimal k (vec F) (map view xs) old new
  vec_appended old middle new is a =
      let same = length-map xs view in
      let count = canonical_appended u32 (λ n. n) unsigned_encoding (length (map view xs)) old middle u32_canonical (is ∙ ap (λ n. old ++ unsigned_encoding n) (sym same)) in
      let both = then_appended u32 (λ n. members F) count a in
      record { encoding = both.encoding; appended = both.appended; encodes = λ w q s h. both.encodes w q s h }

-- ---- size-prefixed bytes

-- A payload, then the size prefix that is inserted before it.
pub size_prefixed_appended : {k : Grammars} {X : Type 0} (F : Format X) (x : X) (start : ℕ) (old middle new : List ℕ) → start ≡ length old → AppendsMinimal k F x old middle → HasEncodableSize (drop start middle) → new ≡ take start middle ++ size_prefixed_encoding (drop start middle) → AppendsMinimal k (size_prefixed F) x old new
size_prefixed_appended F x start old middle new e a encodable is =
    let behind : drop start middle ≡ a.encoding = ap (drop start) a.appended ∙ drop_at old a.encoding start (sym e) in
    let before : take start middle ≡ old = ap (take start) a.appended ∙ take_at old a.encoding start (sym e) in
    record {
      encoding = size_prefixed_encoding a.encoding;
      appended = is ∙ ap₂ (λ y z. y ++ size_prefixed_encoding z) before behind;
      encodes = λ w q s h. size_prefixed_in (minimal_of w) F a.encoding x (subst HasEncodableSize behind encodable) (a.encodes w q h.content h.encodes);
    }

-- ---- lists of records

members_short : (k : Grammars) {T X : Type 0} (F : Format X) (view : T → X) (encoding : T → List ℕ) (Encodable : T → Type 0) → ((x : T) → Encodable x → IsMinimalEncoding k F (view x) (encoding x)) → (xs : List T) → All Encodable xs → IsMinimalEncoding k (members F) (map view xs) (flat_map encoding xs)
members_short k F view encoding Encodable short [] encodable w q s h = refl
members_short k F view encoding Encodable short (x ∷ xs) encodable w q s h = (encoding x, flat_map encoding xs, refl, short x (All-head Encodable x xs encodable) w q h.0 h.3, members_short k F view encoding Encodable short xs (All-tail Encodable x xs encodable) w q h.1 h.4)

-- The vector of records whose encodings are minimal.
pub records_appended : {k : Grammars} {T X : Type 0} (F : Format X) (view : T → X) (encoding : T → List ℕ) (Encodable : T → Type 0) (xs : List T) (old new : List ℕ) → ((x : T) → Encodable x → IsMinimalEncoding k F (view x) (encoding x)) → IsEncodableVec Encodable xs → new ≡ old ++ vec_encoding encoding xs → AppendsMinimal k (vec F) (map view xs) old new
records_appended {k = k} F view encoding Encodable xs old new short encodable e = encoding_appended (vec F) (map view xs) (vec_encoding encoding xs) old new encodes e
  where
    encodes : IsMinimalEncoding k (vec F) (map view xs) (vec_encoding encoding xs)
    encodes w q s h = record {
      front = unsigned_encoding (length xs);
      back = flat_map encoding xs;
      joined = refl;
      first = subst (λ n. u32 (minimal_of w) (unsigned_encoding n) (length (map view xs))) (length-map xs view) (u32_canonical.minimal_in w h.front (length (map view xs)) h.first);
      second = members_short k F view encoding Encodable short xs encodable.members w q h.back h.second;
    }
