-- This file proves the members of lists that are one argument of a call.
use Rattle.wasm_base.proofs.Words.{◌≡◌, ℕ, ◌^◌, ◌<◌, List, [], ◌∷◌, ◌++◌, length, map, Option, Some, None, IsUtf8, refl, sym, ap, ap₂, ◌∙◌, arith, length-append, IfSome, length-map, map-append}
use Rattle.wasm_base.proofs.Words.{payload_joined, All-nil, All-push, flat_map, unsigned_encoding, joined, longest, vec_encoding, size_prefixed_encoding, HasEncodableSize, optional_encoding, IsEncodableName}
use Rattle.std.specs.Borrow.{Bor}
use Rattle.wasm_base.specs.Stores.{Joined, Cut, pieces_model}
use Rattle.wasm_custom.specs.{list_encoding, IsListOf, ContainsList, IsEncodingOf, IsVectorOf, ListMore, given_name, naming_encoding, IsNaming, inside_encoding, IsInside}

-- ---- one more member

module _ {X : Type 0} {encoding : X → List ℕ} {Is : X → Type 0} where
  pub lists_none : IsListOf encoding Is [] []
  lists_none = record { held = refl; encodable = record { count = omega arith; members = All-nil Is } }

  pub lists_more : {pieces : List (List ℕ)} {xs : List X} {piece : List ℕ} (x : X) → IsListOf encoding Is pieces xs → length pieces < longest → piece ≡ encoding x → Is x → IsListOf encoding Is (pieces ++ piece ∷ []) (xs ++ x ∷ [])
  lists_more {pieces = pieces} {xs = xs} x h spare e is = record {
    held = ap₂ (λ a b. a ++ b ∷ []) h.held e ∙ sym (map-append encoding xs (x ∷ []));
    encodable = record { count = omega (arith, spare, ap length h.held, length-map xs encoding, length-append xs (x ∷ [])); members = All-push Is xs x h.encodable.members is };
  }

  pub contains_none : ContainsList encoding Is []
  contains_none = record { list = []; is = lists_none }

  pub contains_one_more : {old : List (List ℕ)} {piece : List ℕ} → ContainsList encoding Is old → length old < longest → IsEncodingOf encoding Is piece → ContainsList encoding Is (old ++ piece ∷ [])
  contains_one_more h spare p = record { list = h.list ++ p.member ∷ []; is = lists_more p.member h.is spare p.is p.encodable }

pub list_more : {X : Type 0} (encoding : X → List ℕ) (Is : X → Type 0) → ListMore encoding Is
list_more encoding Is = record { none = lists_none; given = λ pieces xs x h spare is. lists_more x h spare refl is }

-- ---- encodings

joined-map : {X : Type 0} (encoding : X → List ℕ) (xs : List X) → joined (map encoding xs) ≡ flat_map encoding xs
joined-map encoding [] = refl
joined-map encoding (x ∷ xs) = ap (λ s. encoding x ++ s) (joined-map encoding xs)

of_members : {X : Type 0} (encoding : X → List ℕ) (xs : List X) → list_encoding (pieces_model.joins (map encoding xs)) ≡ vec_encoding encoding xs
unfolding list_encoding
of_members encoding xs = ap₂ ◌++◌ (ap unsigned_encoding (length-map xs encoding)) (joined-map encoding xs)

pub list_vector : {X : Type 0} {encoding : X → List ℕ} {Is : X → Type 0} {pieces : List (List ℕ)} {xs : List X} → IsListOf encoding Is pieces xs → list_encoding (pieces_model.joins pieces) ≡ vec_encoding encoding xs
list_vector {encoding = encoding} {xs = xs} h = ap (λ ps. list_encoding (pieces_model.joins ps)) h.held ∙ of_members encoding xs

-- The encoding of a list is that of the pieces of which it consists.
pub list_cut : {P : List (List ℕ) → Type 0} (j : Joined) (cut : Cut P j) → list_encoding j ≡ list_encoding (pieces_model.joins cut.pieces)
unfolding list_encoding
list_cut j cut = sym (payload_joined j cut)

pub cut_vector : {X : Type 0} {encoding : X → List ℕ} {Is : X → Type 0} (j : Joined) (xs : List X) → Cut (λ pieces. IsListOf encoding Is pieces xs) j → list_encoding j ≡ vec_encoding encoding xs
cut_vector j xs cut = list_cut j cut ∙ list_vector cut.are

pub is_vector : {X : Type 0} (encoding : X → List ℕ) (Is : X → Type 0) → IsVectorOf encoding Is
is_vector encoding Is = record { is = λ j xs cut. cut_vector j xs cut }

-- The encoding of an index with its names.
pub names_inside : (index : ℕ) (j : Joined) → index < 2 ^ 32 → Cut (λ pieces. ContainsList naming_encoding IsNaming pieces) j → IsEncodingOf inside_encoding IsInside (unsigned_encoding index ++ list_encoding j)
names_inside index j range cut = record { member = (index, cut.are.list); is = ap (λ s. unsigned_encoding index ++ s) (list_cut j cut ∙ list_vector cut.are.is); encodable = (range, cut.are.is.encodable) }

-- ---- an optional name

pub named_encoding_of : (name : Option (Bor (List ℕ))) → optional_encoding (λ n. size_prefixed_encoding n.now) name ≡ optional_encoding size_prefixed_encoding (given_name name)
named_encoding_of None = refl
named_encoding_of (Some n) = refl

pub name_encodable : (name : Option (Bor (List ℕ))) → IfSome name (λ n. IsUtf8 n.now) → IfSome name (λ n. HasEncodableSize n.now) → IfSome (given_name name) IsEncodableName
name_encodable None utf8 encodable = tt
name_encodable (Some n) utf8 encodable = (utf8, encodable)
