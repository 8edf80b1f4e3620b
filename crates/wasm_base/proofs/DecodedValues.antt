-- This file proves that the components of a value that has an encoding have encodings, and that all
-- counts and sizes of its minimal encoding fit.
use Rattle.wasm_base.proofs.Std.{◌≡◌, ◌≢◌, Result, Ok, Err, IsErrAnd, ℕ, zero, suc, ◌<◌, ◌≤◌, List, [], ◌∷◌, length, drop, get_or, map, sym, ap, subst, ◌∙◌, arith, drop_at, length-map}
use Rattle.wasm_base.specs.{Mode, Grammar, padded_of, Format, mapped, pair, prefixed, tagged, members, vec, size_prefixed, name, any_bytes, HasEncodings, HasEncodableSize, longest, AppendsMinimal}
use Rattle.wasm_base.specs.{Grammars, Includes, common_grammars, HasEncoding, IsMinimalEncoding}
use Rattle.wasm_base.specs.declared.refused.Refused.{Refused}
use Rattle.wasm_base.proofs.FormatLaws.{AllValues}
use Rattle.wasm_base.proofs.MinimalEncodings.{left_included, right_included}
use Rattle.wasm_base.specs.declared.refused.Refused.TheVariants.{TooLong}

-- `?` propagates an error that is not `TooLong`.
pub stays_short : {T U : Type 0} (r : Result T Refused) (q : Result U Refused) (e : Refused) → q ≡ Err e → IsErrAnd r (λ y. y ≡ e) → q ≢ Err TooLong → r ≢ Err TooLong
stays_short (Ok x) q e is h p = elim h [ ]
stays_short (Err y) q e is h p = λ k. p (cc (is, h, k))

-- ---- components

module _ {X Y : Type 0} (F : Format X) where
  pub left_encoded : {k : Grammars} (G : Format Y) (x : X) (y : Y) → HasEncoding k (pair F G) (x, y) → HasEncoding k F x
  left_encoded G x y h = record { grammar = h.grammar; included = h.included; bytes = h.decoded.front; decoded = h.decoded.first }

  pub right_encoded : {k : Grammars} (G : Format Y) (x : X) (y : Y) → HasEncoding k (pair F G) (x, y) → HasEncoding k G y
  right_encoded G x y h = record { grammar = h.grammar; included = h.included; bytes = h.decoded.back; decoded = h.decoded.second }

  -- The value after a tag that it determines has an encoding.
  pub tagged_encoded : {k : Grammars} (G : X → Format Y) (x : X) (y : Y) → ((mode : Mode) (s : List ℕ) (z : X) → G z mode s y → z ≡ x) → HasEncoding k (tagged F G) y → HasEncoding k (G x) y
  tagged_encoded G x y same_tag h =
      let d = h.decoded in
      let mode = padded_of h.grammar in
      let at_y : G d.0.0 mode d.2.back y = subst (λ z. G d.0.0 mode d.2.back z) d.1 d.2.second in
      record { grammar = h.grammar; included = h.included; bytes = d.2.back; decoded = subst (λ z. G z mode d.2.back y) (same_tag mode d.2.back d.0.0 at_y) at_y }

-- The components of a pair have encodings, each in the grammars of its own.
module _ {X Y : Type 0} (k l : Grammars) (F : Format X) (G : Format Y) (x : X) (y : Y) where
  pub left_in_common : HasEncoding (common_grammars k l) (pair F G) (x, y) → HasEncoding k F x
  left_in_common h = record { grammar = h.grammar; included = left_included k l h.grammar h.included; bytes = h.decoded.front; decoded = h.decoded.first }

  pub right_in_common : HasEncoding (common_grammars k l) (pair F G) (x, y) → HasEncoding l G y
  right_in_common h = record { grammar = h.grammar; included = right_included k l h.grammar h.included; bytes = h.decoded.back; decoded = h.decoded.second }

-- The value after fixed bytes has an encoding.
pub prefixed_encoded : {k : Grammars} {X : Type 0} (head : List ℕ) (F : Format X) (x : X) → HasEncoding k (prefixed head F) x → HasEncoding k F x
prefixed_encoded head F x h = let d = h.decoded in record { grammar = h.grammar; included = h.included; bytes = d.2.back; decoded = subst (λ z. F (padded_of h.grammar) d.2.back z) d.1 d.2.second }

-- The argument of an injective function has an encoding.
pub mapped_encoded : {k : Grammars} {X Y : Type 0} (f : X → Y) (F : Format X) (x : X) → ((z : X) → f z ≡ f x → z ≡ x) → HasEncoding k (mapped f F) (f x) → HasEncoding k F x
mapped_encoded f F x apart h = let d = h.decoded in record { grammar = h.grammar; included = h.included; bytes = h.bytes; decoded = subst (λ z. F (padded_of h.grammar) h.bytes z) (apart d.0 d.1) d.2 }

-- A value that has an encoding has every property of decoded values.
pub decoded_encodable : {k : Grammars} {X : Type 0} (Q : X → Type 0) (F : Format X) (x : X) → AllValues Q F → HasEncoding k F x → Q x
decoded_encodable Q F x all h = all (padded_of h.grammar) h.bytes x h.decoded

-- ---- members

member_at : {k : Grammars} {T X : Type 0} (F : Format X) (w : Grammar) → Includes k w → (view : T → X) (xs : List T) (i : ℕ) (x : T) (s : List ℕ) → i < length xs → x ≡ get_or xs i x → members F (padded_of w) s (map view xs) → HasEncoding k F (view x)
member_at F w q view [] i x s low is h = absurd (omega (arith, low))
member_at F w q view (y ∷ ys) zero x s low is h = record { grammar = w; included = q; bytes = h.0; decoded = subst (λ z. F (padded_of w) h.0 (view z)) (sym is) h.3 }
member_at F w q view (y ∷ ys) (suc i) x s low is h = member_at F w q view ys i x h.1 (omega (arith, low)) is h.4

pub member_encoded : {k : Grammars} {T X : Type 0} (F : Format X) (view : T → X) (xs : List T) (i : ℕ) (x : T) → i < length xs → x ≡ get_or xs i x → HasEncoding k (members F) (map view xs) → HasEncoding k F (view x)
member_encoded F view xs i x low is h = member_at F h.grammar h.included view xs i x h.bytes low is h.decoded

module _ {X : Type 0} (F : Format X) (xs : List X) where
  pub members_encoded : {k : Grammars} → HasEncoding k (vec F) xs → HasEncoding k (members F) xs
  members_encoded h = record { grammar = h.grammar; included = h.included; bytes = h.decoded.back; decoded = h.decoded.second }

  pub counted_encodable : {k : Grammars} → HasEncoding k (vec F) xs → length xs ≤ longest
  counted_encodable h = omega (arith, h.decoded.first.range)

-- A list whose views have an encoding as a vector has at most 2^32 - 1 members.
pub viewed_encodable : {k : Grammars} {T X : Type 0} (F : Format X) (view : T → X) (xs : List T) → HasEncoding k (vec F) (map view xs) → length xs ≤ longest
viewed_encodable F view xs h = omega (arith, counted_encodable F (map view xs) h, length-map xs view)

-- ---- size-prefixed bytes

module _ {X : Type 0} (F : Format X) (x : X) where
  pub content_encoded : {k : Grammars} → HasEncoding k (size_prefixed F) x → HasEncoding k F x
  content_encoded h = record { grammar = h.grammar; included = h.included; bytes = h.decoded.content; decoded = h.decoded.encodes }

  -- The size of the minimal encoding fits if some payload encodes the value.
  pub minimal_encodable : {k : Grammars} (encoding : List ℕ) → HasEncodings F → IsMinimalEncoding k F x encoding → HasEncoding k (size_prefixed F) x → HasEncodableSize encoding
  minimal_encodable encoding k g h =
      let d = h.decoded in
      let w = h.grammar in
      let least = k.shorter w d.content x d.encodes in
      omega (arith, least.2, ap length (k.one w encoding least.0 x (g w h.included d.content d.encodes) least.1), d.size.range)

  -- The size of the bytes that were appended to the old ones fits.
  pub behind_encodable : {k : Grammars} (start : ℕ) (old new : List ℕ) → HasEncodings F → start ≡ length old → AppendsMinimal k F x old new → HasEncoding k (size_prefixed F) x → HasEncodableSize (drop start new)
  behind_encodable start old new k e a h =
      let behind : drop start new ≡ a.encoding = ap (drop start) a.appended ∙ drop_at old a.encoding start (sym e) in
      subst HasEncodableSize (sym behind) (minimal_encodable a.encoding k a.encodes h)

pub bytes_encodable : {k : Grammars} (bytes : List ℕ) → HasEncoding k (size_prefixed any_bytes) bytes → HasEncodableSize bytes
bytes_encodable bytes h = let d = h.decoded in omega (arith, ap length d.encodes, d.size.range)

pub name_encodable : {k : Grammars} (bytes : List ℕ) → HasEncoding k name bytes → HasEncodableSize bytes
name_encodable bytes h = let d = h.decoded.0 in omega (arith, ap length d.encodes, d.size.range)
