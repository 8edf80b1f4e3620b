-- This file proves the effect of an adding call that takes iterators from the entry that it added.
use Rattle.wasm_base.proofs.Words.{◌≡◌, ℕ, ◌≤◌, List, ◌++◌, Result, Ok, Err, Option, ap, ap₂, ◌∙◌, subst, arith, Count, size, AddsOnceTo, GivesPair, GivesTriple, GivesVec, YieldsEncodable}
use Rattle.wasm_base.proofs.Words.{longest, vec_encoding}
use Rattle.wasm_base.specs.Stores.{StoreModel}
use Rattle.wasm_base.specs.declared.refused.Refused.{Refused}
use Rattle.wasm_custom.specs.{AddsList, AddsTwoLists}

module _ {M : Type 0} {model : StoreModel M} {U S T : Type 0} (becomes : U → S → Type 0) (gives : S → Option T → S → Type 0) (remaining : S → Count) (elements : U) (it : S) (from : becomes elements it) (count : ℕ) (known : size (remaining it) ≡ count) (few : count ≤ longest)
    (front : List ℕ) (encodable : Type 0) (was_encodable : encodable) (Encodable : T → Type 0) (encoding : T → List ℕ) where
  pub adds_list : (old new : M) (result : Result (Unit {0}) Refused) → AddsOnceTo model (GivesPair front encodable (GivesVec gives Encodable encoding it)) (encodable × YieldsEncodable gives Encodable it) old new result
      → AddsList model becomes gives remaining elements Encodable (λ items. front ++ vec_encoding encoding items) old new result
  adds_list old new (Ok x) h = record {
    ok =
        let said = h.ok in
        let pair = said.1 in
        let given = pair.given in
        let is : said.0 ≡ front ++ vec_encoding encoding given.items = pair.is ∙ ap (λ s. front ++ s) given.is in
        (it, given.items, from, given.drained, given.encodable, subst (λ t. model.gains t old new) is said.2);
    err = h.err;
    counted = h.counted;
    too_long = λ short fit spare. h.too_long (was_encodable, λ left xs y. fit it left xs from y) spare;
    too_many = λ many. absurd (omega (arith, many it from, known, few));
  }
  adds_list old new (Err e) h = record {
    ok = h.ok;
    err = h.err;
    counted = h.counted;
    too_long = λ short fit spare. h.too_long (was_encodable, λ left xs y. fit it left xs from y) spare;
    too_many = λ many. absurd (omega (arith, many it from, known, few));
  }

module _ {M : Type 0} {model : StoreModel M} {U S V R T W : Type 0} (becomes : U → S → Type 0) (gives : S → Option T → S → Type 0) (remaining : S → Count) (first : U) (it : S) (from : becomes first it) (count : ℕ) (known : size (remaining it) ≡ count) (few : count ≤ longest)
    (turns : V → R → Type 0) (hands : R → Option W → R → Type 0) (left : R → Count) (second : V) (jt : R) (made : turns second jt) (number : ℕ) (tells : size (left jt) ≡ number) (low : number ≤ longest)
    (front : List ℕ) (encodable : Type 0) (was_encodable : encodable) (Encodable : T → Type 0) (Suits : W → Type 0) (encoding : T → List ℕ) (utf8_of : W → List ℕ) where
  pub adds_two : (old new : M) (result : Result (Unit {0}) Refused) → AddsOnceTo model (GivesTriple front encodable (GivesVec gives Encodable encoding it) (GivesVec hands Suits utf8_of jt)) (encodable × YieldsEncodable gives Encodable it × YieldsEncodable hands Suits jt) old new result
      → AddsTwoLists model becomes gives remaining first turns hands left second Encodable Suits (λ xs ys. front ++ (vec_encoding encoding xs ++ vec_encoding utf8_of ys)) old new result
  adds_two old new (Ok x) h = record {
    ok =
        let said = h.ok in
        let pair = said.1 in
        let a = pair.first in
        let b = pair.second in
        let is : said.0 ≡ front ++ (vec_encoding encoding a.items ++ vec_encoding utf8_of b.items) = pair.is ∙ ap (λ s. front ++ s) (ap₂ ◌++◌ a.is b.is) in
        (it, a.items, jt, b.items, from, a.drained, a.encodable, made, b.drained, b.encodable, subst (λ t. model.gains t old new) is said.2);
    err = h.err;
    counted = h.counted;
    too_long = λ short brief fit suit spare. h.too_long (was_encodable, (λ end xs y. fit it end xs from y), (λ end ys y. suit jt end ys made y)) spare;
    too_many = λ many. absurd (omega (arith, many it from, known, few));
    too_many_then = λ many. absurd (omega (arith, many jt made, tells, low));
  }
  adds_two old new (Err e) h = record {
    ok = h.ok;
    err = h.err;
    counted = h.counted;
    too_long = λ short brief fit suit spare. h.too_long (was_encodable, (λ end xs y. fit it end xs from y), (λ end ys y. suit jt end ys made y)) spare;
    too_many = λ many. absurd (omega (arith, many it from, known, few));
    too_many_then = λ many. absurd (omega (arith, many jt made, tells, low));
  }

-- The same for a section that is viewed in another way.
pub adds_two_from : {M : Type 0} {model : StoreModel M} {U S V R T W : Type 0} {becomes : U → S → Type 0} {gives : S → Option T → S → Type 0} {remaining : S → Count} {first : U} {turns : V → R → Type 0} {hands : R → Option W → R → Type 0} {left : R → Count} {second : V}
    {Encodable : T → Type 0} {Suits : W → Type 0} {encoding : List T → List W → List ℕ} {old same new : M} {result : Result (Unit {0}) Refused}
    → old ≡ same → AddsTwoLists model becomes gives remaining first turns hands left second Encodable Suits encoding old new result → AddsTwoLists model becomes gives remaining first turns hands left second Encodable Suits encoding same new result
adds_two_from {model = model} {becomes = becomes} {gives = gives} {remaining = remaining} {first = first} {turns = turns} {hands = hands} {left = left} {second = second} {Encodable = Encodable} {Suits = Suits} {encoding = encoding} {new = new} {result = result} e h =
    subst (λ z. AddsTwoLists model becomes gives remaining first turns hands left second Encodable Suits encoding z new result) e h
