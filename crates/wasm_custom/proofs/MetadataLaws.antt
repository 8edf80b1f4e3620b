-- This file proves that code metadata is unambiguous, and how its values are decoded, minimized and
-- walked over.
use Rattle.wasm_base.proofs.Words.{◌≡◌, ◌≢◌, ℕ, ◌^◌, ◌<◌, List, [], ◌∷◌, ◌++◌, length, true, map, refl, sym, ap, ap₂, subst, ◌∙◌, arith, append-nil, All, All-nil, All-cons, Option, Some, None, zero, suc, get_or}
use Rattle.wasm_base.proofs.Words.{Grammar, minimal, Format, u32, byte, pair, members, vec, size_prefixed, fixed, Mode, Unambiguous, UnambiguousWhole, BeginsWith, Decodes, Rejects, RejectsWhole, ItemLaws}
use Rattle.wasm_base.proofs.Words.{SectionLaws, AllValues, ascii, pair_unambiguous, vec_unambiguous, byte_unambiguous, u32_unambiguous, size_prefixed_unambiguous, whole_from_unique, members_whole, pair_encodes, u32_encodes}
use Rattle.wasm_base.proofs.Words.{vec_encodes, size_prefixed_encodes, unsigned_encoding, size_prefixed_encoding, vec_encoding, HasEncodableSize, decodes_same, none_left, AppendsMinimal, HasEncoding, IsMinimalEncoding}
use Rattle.wasm_base.proofs.Words.{both_grammars, encoding_appended, right_encoded, begins_then, flat_map}
use Rattle.wasm_base.proofs.DecodedValues.{minimal_encodable}
use Rattle.wasm_base.proofs.EncodingLaws.{members_encodes, size_prefixed_in}
use Rattle.wasm_base.proofs.GrammarLaws.{AreMinimalInBoth, byte_canonical, canonical_by, members_both, pair_both, u32_both, u32_canonical}
use Rattle.wasm_base.proofs.WalkLaws.{take_then}
use Rattle.wasm_base.specs.Encodings.{optional_encoding}
use Rattle.wasm_base.specs.Numbers.{minimal_of}
use Rattle.wasm_base.specs.Walks.{Walks, WalksWhole}
use Rattle.wasm_custom.specs.{CustomLayoutLaws, counted_payload, HintsIn, hints_in, hints_in_encoding, AreHintsIn, hints_in_items, hinted, hinted_encoding, IsHinted, hinted_items, PayloadLaws, TargetItem}
use Rattle.wasm_custom.specs.{frequencies_name, frequencies_payload, frequency_encoding, frequency_items, IsFrequency, hotness_numbers, order, order_numbers, order_encoding, order_items, orders_name, orders_payload, IsOrder}
use Rattle.wasm_custom.specs.{call_targets_name, call_targets_payload, call_target_items, target_encoding, targets, targets_encoding, IsTarget}
use Rattle.wasm_custom.specs.declared.compilation_orders.CompilationOrder.{CompilationOrder}
use Rattle.wasm_custom.proofs.EntriesLaws.{counted_layout, entries_laws}

-- ---- the hints of a function

pub hints_in_unambiguous : {Hint : Type 0} {F : Format Hint} → Unambiguous F → Unambiguous (hints_in F)
hints_in_unambiguous f = pair_unambiguous u32_unambiguous (vec_unambiguous f)

module _ {Hint : Type 0} (F : Format Hint) (Is : Hint → Type 0) (encoding : Hint → List ℕ) (f : Unambiguous F) (one : (h : Hint) → Is h → F minimal (encoding h) h) where
  hints_in_encodes : (h : HintsIn Hint) → AreHintsIn Is h → hints_in F minimal (hints_in_encoding encoding h) h
  hints_in_encodes h plain = pair_encodes u32 (vec F) (unsigned_encoding h.0) (vec_encoding encoding h.1) h.0 h.1 (u32_encodes h.0 plain.0) (vec_encodes F Is encoding one h.1 plain.1)

  pub hints_in_laws : ItemLaws (hints_in_items F Is encoding)
  hints_in_laws = record { unique = hints_in_unambiguous f; encodes = λ h plain encodable. hints_in_encodes h plain }

-- ---- hints with a size-prefixed value

module _ {X : Type 0} {n : List ℕ} {F : Format X} {Is : X → Type 0} {encoding : X → List ℕ} (laws : PayloadLaws n F Is encoding) where
  pub payload_unambiguous : Unambiguous (size_prefixed F)
  payload_unambiguous = size_prefixed_unambiguous laws.unique

  pub hinted_unambiguous : Unambiguous (hinted F)
  hinted_unambiguous = pair_unambiguous u32_unambiguous payload_unambiguous

  hinted_encodes : (h : ℕ × X) → IsHinted Is encoding h → hinted F minimal (hinted_encoding encoding h) h
  hinted_encodes h plain =
      pair_encodes u32 (size_prefixed F) (unsigned_encoding h.0) (size_prefixed_encoding (encoding h.1)) h.0 h.1 (u32_encodes h.0 plain.offset) (size_prefixed_encodes F (encoding h.1) h.1 plain.fits (laws.encodes h.1 plain.value))

  pub hinted_laws : ItemLaws (hinted_items F Is encoding)
  hinted_laws = hints_in_laws (hinted F) (IsHinted Is encoding) (hinted_encoding encoding) hinted_unambiguous hinted_encodes

  pub hinted_layout : CustomLayoutLaws (hints_in (hinted F)) n [] (fixed [] (tt {0})) true
  hinted_layout = counted_layout laws.name_utf8

  pub hinted_section : SectionLaws (hinted_items F Is encoding) (counted_payload n (hints_in (hinted F)))
  hinted_section = entries_laws hinted_laws hinted_layout (λ given plain. plain) (λ given plain. plain)

  value_minimal : (x : X) → IsMinimalEncoding both_grammars F x (encoding x)
  value_minimal x = λ w q s h. laws.shortest.minimal_in w s x h

  value_fits : (x : X) → HasEncoding both_grammars (size_prefixed F) x → HasEncodableSize (encoding x)
  value_fits x h = minimal_encodable F x (encoding x) laws.unique.encodings (value_minimal x) h

  hinted_minimal : (i : ℕ) (x : X) → IsMinimalEncoding both_grammars (hinted F) (i, x) (hinted_encoding encoding (i, x))
  hinted_minimal i x = λ w q s h.
      let d = h.second in
      let fits = value_fits x (record { grammar = w; included = tt; bytes = h.back; decoded = d }) in
      record {
        front = unsigned_encoding i;
        back = size_prefixed_encoding (encoding x);
        joined = refl;
        first = u32_canonical.minimal_in w h.front i h.first;
        second = size_prefixed_in (minimal_of w) F (encoding x) x fits (value_minimal x w tt d.content d.encodes);
      }

  pub hinted_appended : (i : ℕ) (x : X) (old new : List ℕ) → new ≡ old ++ hinted_encoding encoding (i, x) → AppendsMinimal both_grammars (hinted F) (i, x) old new
  hinted_appended i x old new e = encoding_appended (hinted F) (i, x) (hinted_encoding encoding (i, x)) old new (hinted_minimal i x) e

  pub hinted_fits : (i : ℕ) (x : X) → HasEncoding both_grammars (hinted F) (i, x) → HasEncodableSize (encoding x)
  hinted_fits i x h = value_fits x (right_encoded u32 (size_prefixed F) i x h)

pub ruleset hint_steps = (hinted_appended, hinted_fits)

-- ---- instruction frequencies

pub frequency_laws : PayloadLaws frequencies_name byte IsFrequency frequency_encoding
frequency_laws = record { name_utf8 = ascii {bytes = frequencies_name} refl; unique = whole_from_unique byte_unambiguous; encodes = λ b plain. refl; shortest = byte_canonical }

pub frequencies_section : SectionLaws frequency_items frequencies_payload
frequencies_section = hinted_section frequency_laws

-- ---- numbers up to the last byte

number_begins : BeginsWith (λ b. Unit {0}) u32
number_begins mode [] n h = absurd h.groups
number_begins mode (b ∷ s) n h = (b, s, refl, tt)

number_in_range : AllValues (λ n. n < 2 ^ 32) u32
number_in_range mode s n h = h.range

members_are : {X : Type 0} (Q : X → Type 0) (F : Format X) → AllValues Q F → AllValues (All Q) (members F)
members_are Q F all mode s [] h = All-nil Q
members_are Q F all mode s (x ∷ xs) h = All-cons Q x xs (all mode h.0 x h.3) (members_are Q F all mode h.1 xs h.4)

-- ---- compilation orders

hotness_same : (a b : Option ℕ) → hotness_numbers a ≡ hotness_numbers b → a ≡ b
hotness_same None None e = refl
hotness_same None (Some b) e = absurd (cc e)
hotness_same (Some a) None e = absurd (cc e)
hotness_same (Some a) (Some b) e = cc e

order_same : (x y : CompilationOrder) → order_numbers x ≡ order_numbers y → x ≡ y
order_same x y e =
    let first : x.order ≡ y.order = cc e in
    let second : hotness_numbers x.hotness ≡ hotness_numbers y.hotness = cc e in
    ap₂ (λ n h. record { order = n; hotness = h }) first (hotness_same x.hotness y.hotness second)

numbers_whole : UnambiguousWhole (members u32)
numbers_whole = members_whole (λ b. Unit {0}) number_begins u32_unambiguous

order_whole : UnambiguousWhole order
order_whole = record {
  whole = λ mode s x y h g. order_same x y (numbers_whole.whole mode s (order_numbers x) (order_numbers y) h g);
  encodings = record {
    one = λ w s t x h g. numbers_whole.encodings.one w s t (order_numbers x) h g;
    included = λ m n below s x h. numbers_whole.encodings.included m n below s (order_numbers x) h;
    shorter = λ w s x h. numbers_whole.encodings.shorter w s (order_numbers x) h;
  };
}

order_encoding_is : (n : ℕ) (h : Option ℕ) → flat_map unsigned_encoding (n ∷ hotness_numbers h) ≡ unsigned_encoding n ++ optional_encoding unsigned_encoding h
order_encoding_is n None = refl
order_encoding_is n (Some m) = ap (λ z. unsigned_encoding n ++ z) (append-nil (unsigned_encoding m))

order_encodes : (o : CompilationOrder) → IsOrder o → order minimal (order_encoding o) o
order_encodes o plain = subst (λ s. members u32 minimal s (order_numbers o)) (order_encoding_is o.order o.hotness) (members_encodes u32 (λ n. n < 2 ^ 32) unsigned_encoding u32_encodes (order_numbers o) plain)

order_is : AllValues IsOrder order
order_is mode s o h = members_are (λ n. n < 2 ^ 32) u32 number_in_range mode s (order_numbers o) h

order_both : AreMinimalInBoth order
order_both = let numbers : AreMinimalInBoth (members u32) = members_both u32_both in record { same = λ s o h. numbers.same s (order_numbers o) h }

pub order_laws : PayloadLaws orders_name order IsOrder order_encoding
order_laws = record { name_utf8 = ascii {bytes = orders_name} refl; unique = order_whole; encodes = order_encodes; shortest = canonical_by (λ o. o) order_encoding IsOrder order_is order_encodes order_both }

pub orders_section : SectionLaws order_items orders_payload
orders_section = hinted_section order_laws

module _ {m : Mode} (bytes rest : List ℕ) (n : ℕ) (h : Decodes u32 m bytes n rest) where
  pub order_alone : length rest ≡ 0 → order m bytes (record { order = n; hotness = None })
  order_alone e = (h.front, rest, h.split, h.encodes, none_left rest e)

  pub order_with : (k : ℕ) → u32 m rest k → order m bytes (record { order = n; hotness = Some k })
  order_with k g = (h.front, rest, h.split, h.encodes, (rest, [], sym (append-nil rest), g, refl))

  hotness_rejects : (s : List ℕ) (o : Option ℕ) → rest ≡ s → length rest ≢ 0 → RejectsWhole u32 m rest → members u32 m s (hotness_numbers o) → ⊥
  hotness_rejects s None e more none g = more (ap length (e ∙ g))
  hotness_rejects s (Some k) e more none g = none.none k (subst (λ z. u32 m z k) (sym (e ∙ g.2 ∙ ap (λ z. g.0 ++ z) g.4 ∙ append-nil g.0)) g.3)

  pub order_rejects : length rest ≢ 0 → RejectsWhole u32 m rest → RejectsWhole order m bytes
  order_rejects more none = record {
    none = λ o g.
        let same = decodes_same u32_unambiguous h (record { front = g.0; split = g.2; encodes = g.3 }) in
        hotness_rejects g.1 o.hotness same.1 more none g.4;
  }

pub order_none : {m : Mode} (bytes : List ℕ) → Rejects u32 m bytes → RejectsWhole order m bytes
order_none bytes n = record { none = λ o g. n.none o.order g.1 (record { front = g.0; split = g.2; encodes = g.3 }) }

module _ {E : Type 0} (seen : E → List ℕ → Type 0) (w : Grammar) (bytes rest : List ℕ) (old middle new : E) (h : Walks seen w u32 bytes rest old middle) where
  pub order_alone_walks : length rest ≡ 0 → WalksWhole seen w order bytes old middle
  order_alone_walks e = record {
    value = record { order = h.value; hotness = None };
    decoded = order_alone bytes rest h.value h.decoded e;
    encoding = h.encoding;
    encodes = (h.encoding, [], sym (append-nil h.encoding), h.encodes, refl);
    taken = h.taken;
  }

  pub order_with_walks : WalksWhole seen w u32 rest middle new → WalksWhole seen w order bytes old new
  order_with_walks g = record {
    value = record { order = h.value; hotness = Some g.value };
    decoded = order_with bytes rest h.value h.decoded g.value g.decoded;
    encoding = h.encoding ++ g.encoding;
    encodes = (h.encoding, g.encoding, refl, h.encodes, (g.encoding, [], sym (append-nil g.encoding), g.encodes, refl));
    taken = take_then seen h.encoding g.encoding old middle new h.taken g.taken;
  }

pub ruleset order_steps = (order_alone, order_with, order_none, order_rejects)

-- ---- call targets

pub target_unambiguous : Unambiguous (pair u32 u32)
target_unambiguous = pair_unambiguous u32_unambiguous u32_unambiguous

pub target_begins : BeginsWith (λ b. Unit {0}) (pair u32 u32)
target_begins = begins_then (λ b. Unit {0}) number_begins

target_is : AllValues IsTarget (pair u32 u32)
target_is mode s t h = (h.first.range, h.second.range)

target_encodes : (t : TargetItem) → IsTarget t → pair u32 u32 minimal (target_encoding t) t
target_encodes t plain = pair_encodes u32 u32 (unsigned_encoding t.0) (unsigned_encoding t.1) t.0 t.1 (u32_encodes t.0 plain.0) (u32_encodes t.1 plain.1)

targets_encodes : (ts : List TargetItem) → All IsTarget ts → targets minimal (targets_encoding ts) ts
targets_encodes ts plain = members_encodes (pair u32 u32) IsTarget target_encoding target_encodes ts plain

pub targets_laws : PayloadLaws call_targets_name targets (All IsTarget) targets_encoding
targets_laws = record {
  name_utf8 = ascii {bytes = call_targets_name} refl;
  unique = members_whole (λ b. Unit {0}) target_begins target_unambiguous;
  encodes = targets_encodes;
  shortest = canonical_by (λ ts. ts) targets_encoding (All IsTarget) (members_are IsTarget (pair u32 u32) target_is) targets_encodes (members_both (pair_both u32_both u32_both));
}

pub call_targets_section : SectionLaws call_target_items call_targets_payload
call_targets_section = hinted_section targets_laws

-- The encodings of the views of the members are those of the members by their views.
pub views_encoded : {T X : Type 0} (encoding : X → List ℕ) (view : T → X) (xs : List T) → flat_map (λ x. encoding (view x)) xs ≡ flat_map encoding (map view xs)
views_encoded encoding view [] = refl
views_encoded encoding view (x ∷ xs) = ap (λ z. encoding (view x) ++ z) (views_encoded encoding view xs)

-- An element of a list is the one that any default gives.
pub get_or_own : {T : Type 0} (xs : List T) (i : ℕ) (d : T) → i < length xs → get_or xs i d ≡ get_or xs i (get_or xs i d)
get_or_own [] i d low = absurd (omega (arith, low))
get_or_own (x ∷ xs) zero d low = refl
get_or_own (x ∷ xs) (suc i) d low = get_or_own xs i d (omega (arith, low))
