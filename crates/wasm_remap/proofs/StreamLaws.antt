-- This file proves the steps of passes that decode, map and append values.
use Rattle.wasm_base.proofs.Words.{◌≡◌, ◌≢◌, ℕ, ◌+◌, List, [], ◌∷◌, ◌++◌, length, map, take, drop, refl, sym, ap, ap₂, subst, ◌∙◌, arith, append_assoc, append-nil, length-append}
use Rattle.std.proofs.lemmas.List.{drop_at, length-map, map-append, map-id, take_at}
use Rattle.wasm_base.specs.Decoding.{Decodes, Unambiguous}
use Rattle.wasm_base.specs.Encodings.{HasEncodableSize, size_prefixed_encoding}
use Rattle.wasm_base.specs.Formats.{Format, u32, pair, members, vec, any_bytes, size_prefixed}
use Rattle.wasm_base.specs.Minimal.{IsFrontOf}
use Rattle.wasm_base.specs.Numbers.{admitted, standard, standard_minimal, unsigned_encoding}
use Rattle.wasm_base.proofs.DecodeSizePrefixed.{filled_decodes}
use Rattle.wasm_base.proofs.DecodeWhole.{HasMembers, members_begun, members_continued, members_done, whole_decodes}
use Rattle.wasm_base.proofs.DecodingSteps.{then_decodes, members_start, members_step, members_push, vec_decodes}
use Rattle.wasm_base.proofs.EncodingLaws.{size_prefixed_in}
use Rattle.wasm_base.proofs.GrammarLaws.{u32_canonical}
use Rattle.wasm_remap.specs.Streamed.{HasForm, AppendsForm, Remaps, RemapsWhole}

-- ---- members

module _ {X : Type 0} (f : X → X) (F : Format X) where
  appends_none : (old : List ℕ) → AppendsForm (members F) [] old old
  appends_none old = record { encoding = []; appended = sym (append-nil old); encodes = λ h. refl }

  split : (xs : List X) (x : X) (s : List ℕ) → members F standard s (xs ++ x ∷ []) → HasForm (members F) xs × HasForm F x
  split [] x s h = (([], refl), (h.0, h.3))
  split (y ∷ xs) x s h = let r = split xs x h.1 h.4 in ((h.0 ++ r.0.0, (h.0, r.0.0, refl, h.3, r.0.1)), r.1)

  appends_more : (xs : List X) (x : X) (old middle new : List ℕ) → AppendsForm (members F) (map f xs) old middle → AppendsForm F (f x) middle new → AppendsForm (members F) (map f (xs ++ x ∷ [])) old new
  appends_more xs x old middle new a b =
      let e : map f (xs ++ x ∷ []) ≡ map f xs ++ f x ∷ [] = map-append f xs (x ∷ []) in
      record {
        encoding = a.encoding ++ b.encoding;
        appended = b.appended ∙ ap (λ z. z ++ b.encoding) a.appended ∙ append_assoc old a.encoding b.encoding;
        encodes = λ h.
            let s = split (map f xs) (f x) h.0 (subst (members F standard h.0) e h.1) in
            subst (members F standard_minimal (a.encoding ++ b.encoding)) (sym e) (members_push F standard_minimal a.encoding b.encoding (map f xs) (f x) (a.encodes s.0) (b.encodes s.1));
      }

  -- The pass has appended `count` values from `start` on, and `rest` remains.
  pub record HasStreamed (start : List ℕ) (count : ℕ) (rest old new : List ℕ) : Type 0 where
    pub values : List X
    pub read : Decodes (members F) standard start values rest
    pub counted : length values ≡ count
    pub appends : AppendsForm (members F) (map f values) old new

  pub streamed_start : (start old : List ℕ) → HasStreamed start 0 start old old
  streamed_start start old = record { values = []; read = members_start F standard start; counted = refl; appends = appends_none old }

  pub streamed_step : {start rest behind old middle new : List ℕ} {count : ℕ} → HasStreamed start count rest old middle → Remaps f F rest behind middle new → HasStreamed start (count + 1) behind old new
  streamed_step {old = old} {middle = middle} {new = new} h g = record {
    values = h.values ++ g.value ∷ [];
    read = members_step F h.read g.decoded;
    counted = omega (arith, length-append h.values (g.value ∷ []), h.counted);
    appends = appends_more h.values g.value old middle new h.appends g.appends;
  }

  pub streamed_front : {start rest old new : List ℕ} {count : ℕ} → HasStreamed start count rest old new → IsFrontOf old new
  streamed_front h = (h.appends.encoding, h.appends.appended)

  -- The count was decoded and appended before the members.
  pub streamed_vec : {bytes start rest old middle new : List ℕ} {count : ℕ} (n : ℕ) → Decodes u32 standard bytes n start → middle ≡ old ++ unsigned_encoding n → HasStreamed start count rest middle new → count ≡ n → Remaps (map f) (vec F) bytes rest old new
  streamed_vec {old = old} n d e h all =
      let a = h.appends in
      let same : length (map f h.values) ≡ n = length-map h.values f ∙ h.counted ∙ all in
      let count : u32 standard_minimal (unsigned_encoding n) n = u32_canonical.minimal_in admitted d.front n d.encodes in
      record {
        value = h.values;
        decoded = vec_decodes F d h.read (h.counted ∙ all);
        appends = record {
          encoding = unsigned_encoding n ++ a.encoding;
          appended = a.appended ∙ ap (λ z. z ++ a.encoding) e ∙ append_assoc old (unsigned_encoding n) a.encoding;
          encodes = λ q. record { front = unsigned_encoding n; back = a.encoding; joined = refl; first = subst (λ z. u32 standard_minimal (unsigned_encoding n) z) (sym same) count; second = a.encodes (q.1.back, q.1.second) };
        };
      }

  -- ---- members up to the last byte

  -- The pass has appended some values, and `rest` remains.
  pub record HasStreamedTo (bytes rest old new : List ℕ) : Type 0 where
    pub values : List X
    pub read : HasMembers F standard (λ x. x) bytes values rest
    pub appends : AppendsForm (members F) (map f values) old new

  pub streamed_begun : (bytes old : List ℕ) → HasStreamedTo bytes bytes old old
  streamed_begun bytes old = record { values = []; read = members_begun F (λ x. x) bytes; appends = appends_none old }

  pub streamed_continued : Unambiguous F → {bytes rest behind old middle new : List ℕ} → HasStreamedTo bytes rest old middle → rest ≢ [] → Remaps f F rest behind middle new → HasStreamedTo bytes behind old new
  streamed_continued unique {bytes = bytes} {rest = rest} {behind = behind} {old = old} {middle = middle} {new = new} h some g = record {
    values = h.values ++ g.value ∷ [];
    read = members_continued F (λ x. x) bytes unique rest behind h.values g.value h.read some g.decoded;
    appends = appends_more h.values g.value old middle new h.appends g.appends;
  }

  pub streamed_to_front : {bytes rest old new : List ℕ} → HasStreamedTo bytes rest old new → IsFrontOf old new
  streamed_to_front h = (h.appends.encoding, h.appends.appended)

  pub streamed_done : {bytes rest old new : List ℕ} → HasStreamedTo bytes rest old new → rest ≡ [] → RemapsWhole (map f) (members F) bytes old new
  streamed_done {bytes = bytes} {rest = rest} h e = record {
    value = h.values;
    decoded = subst (members F standard bytes) (map-id h.values) (members_done F (λ x. x) bytes rest h.values h.read e);
    appends = h.appends;
  }

-- ---- values that occupy all of the bytes

pub whole_remaps : {X : Type 0} {f : X → X} {F : Format X} (bytes rest old new : List ℕ) → Remaps f F bytes rest old new → length rest ≡ 0 → RemapsWhole f F bytes old new
whole_remaps {F = F} bytes rest old new h e = record { value = h.value; decoded = whole_decodes F bytes rest h.value h.decoded e; appends = h.appends }

-- The payload of a size prefix is appended, and then its new size is inserted before it.
pub sized_remaps : {X : Type 0} {f : X → X} (F : Format X) (bytes content rest old middle new : List ℕ) (start : ℕ) → Decodes (size_prefixed any_bytes) standard bytes content rest → RemapsWhole f F content old middle → start ≡ length old → HasEncodableSize (drop start middle)
    → new ≡ take start middle ++ size_prefixed_encoding (drop start middle) → Remaps f (size_prefixed F) bytes rest old new
sized_remaps {f = f} F bytes content rest old middle new start h m e encodable is =
    let a = m.appends in
    let behind : drop start middle ≡ a.encoding = ap (drop start) a.appended ∙ drop_at old a.encoding start (sym e) in
    let before : take start middle ≡ old = ap (take start) a.appended ∙ take_at old a.encoding start (sym e) in
    record {
      value = m.value;
      decoded = filled_decodes F bytes content rest m.value h m.decoded;
      appends = record {
        encoding = size_prefixed_encoding a.encoding;
        appended = is ∙ ap₂ (λ y z. y ++ size_prefixed_encoding z) before behind;
        encodes = λ q. size_prefixed_in standard_minimal F a.encoding (f m.value) (subst HasEncodableSize behind encodable) (a.encodes (q.1.content, q.1.encodes));
      };
    }

-- ---- two values

-- A number that stays, and then a value.
pub second_remaps : {Y : Type 0} {g : Y → Y} {G : Format Y} {bytes rest last old middle new : List ℕ} (n : ℕ) → Decodes u32 standard bytes n rest → middle ≡ old ++ unsigned_encoding n → Remaps g G rest last middle new → Remaps (λ p. (p.0, g p.1)) (pair u32 G) bytes last old new
second_remaps {old = old} n d e h =
    let a = h.appends in
    record {
      value = (n, h.value);
      decoded = then_decodes d h.decoded;
      appends = record {
        encoding = unsigned_encoding n ++ a.encoding;
        appended = a.appended ∙ ap (λ z. z ++ a.encoding) e ∙ append_assoc old (unsigned_encoding n) a.encoding;
        encodes = λ q. record { front = unsigned_encoding n; back = a.encoding; joined = refl; first = u32_canonical.minimal_in admitted d.front n d.encodes; second = a.encodes (q.1.back, q.1.second) };
      };
    }
