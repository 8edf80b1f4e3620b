-- This file proves that dropping bytes is an effect, and what a walk with each effect gives.
use Rattle.wasm_base.proofs.Std.{◌≡◌, Result, Ok, Err, OnOk, ℕ, List, ◌++◌, length, drop, take, drop_at, take_at, refl, sym, ap, ap₂, subst, ◌∙◌}
use Rattle.std.proofs.Common.{IfOk}
use Rattle.wasm_base.proofs.Std.{Vec}
use Rattle.wasm_base.specs.{Grammar, Grammars, Includes, minimal_of, padded_of, Format, vec, size_prefixed, any_bytes, size_prefixed_encoding, HasEncodableSize, Decodes, Unambiguous, AppendsMinimal, IsFrontOf, Minimizes, MinimizesWhole}
use Rattle.wasm_base.proofs.DecodeSizePrefixed.{filled_decodes}
use Rattle.wasm_base.proofs.EncodingLaws.{size_prefixed_in}
use Rattle.wasm_base.specs.Walks.{Keeps, TakesMinimal, Walks, WalksMany, WalksWhole}

-- ---- bytes that are dropped

-- Nothing is kept of the minimal encodings, which there are.
pub nothing_takes : {E X : Type 0} (k : Grammars) (F : Format X) (x : X) (e : E) → Unambiguous F → TakesMinimal (λ (e : E) (l : List ℕ). Unit {0}) k F x e e
nothing_takes k F x e unique = record { encoded = λ w q s h. let m = unique.encodings.shorter w s x h in (m.0, m.1, record { after = λ l t. tt }) }

module _ {E X T R : Type 0} (seen : E → List ℕ → Type 0) (w : Grammar) (F : Format X) (bytes : List ℕ) (old new : E) where
  pub skipped_value : (rest : T → List ℕ) (r : Result T R) → IfOk r (λ t. Walks seen w F bytes (rest t) old new) → IfOk r (λ t. (x : X) × Decodes F (padded_of w) bytes x (rest t))
  skipped_value rest (Ok t) h = (h.value, h.decoded)
  skipped_value rest (Err e) h = h

  pub skipped_vector : (count : T → ℕ) (rest : T → List ℕ) (r : Result T R) → IfOk r (λ t. WalksMany seen w F bytes (count t) (rest t) old new) → IfOk r (λ t. (xs : List X) × Decodes (vec F) (padded_of w) bytes xs (rest t) × (count t ≡ length xs))
  skipped_vector count rest (Ok t) h = (h.value, h.decoded, h.counted)
  skipped_vector count rest (Err e) h = h

  pub checked_whole : (r : Result T R) → OnOk r (WalksWhole seen w F bytes old new) → OnOk r ((x : X) × F (padded_of w) bytes x)
  checked_whole (Ok t) h = (h.value, h.decoded)
  checked_whole (Err e) h = tt

-- ---- bytes that are appended

pub front_kept : {A : Type 0} (old new : Vec ℕ A) → Keeps (λ e l. e.items ≡ l) old new → IsFrontOf old.items new.items
front_kept old new k = k.after old.items refl

pub minimized_whole : {A X T R : Type 0} (w : Grammar) (F : Format X) (bytes : List ℕ) (old new : Vec ℕ A) (r : Result T R) → OnOk r (WalksWhole (λ e l. e.items ≡ l) w F bytes old new) → OnOk r (MinimizesWhole w F bytes old.items new.items)
minimized_whole w F bytes old new (Ok t) h = record { value = h.value; decoded = h.decoded; encoding = h.encoding; encodes = h.encodes; appended = h.taken.after old.items refl }
minimized_whole w F bytes old new (Err e) h = tt

pub minimized_many : {A X : Type 0} (w : Grammar) (F : Format X) (bytes : List ℕ) (count : ℕ) (rest : List ℕ) (old new : Vec ℕ A) → WalksMany (λ e l. e.items ≡ l) w F bytes count rest old new → Minimizes w (vec F) bytes rest old.items new.items
minimized_many w F bytes count rest old new h = record { value = h.value; decoded = h.decoded; encoding = h.encoding; encodes = h.encodes; appended = h.taken.after old.items refl }

-- ---- bytes that are minimized by a call

-- The minimal encoding of a decoded value is appended.
pub decoded_whole_minimizes : {k : Grammars} {X : Type 0} (w : Grammar) (F : Format X) (x : X) (bytes old new : List ℕ) → Includes k w → F (padded_of w) bytes x → AppendsMinimal k F x old new → MinimizesWhole w F bytes old new
decoded_whole_minimizes w F x bytes old new q h a = record { value = x; decoded = h; encoding = a.encoding; encodes = a.encodes w q bytes h; appended = a.appended }

-- The payload of a size prefix is minimized, and its new size is inserted before it.
pub sized_minimizes : {X : Type 0} (w : Grammar) (F : Format X) (bytes content rest old middle new : List ℕ) (start : ℕ) → Decodes (size_prefixed any_bytes) (padded_of w) bytes content rest → MinimizesWhole w F content old middle → start ≡ length old → HasEncodableSize (drop start middle)
    → new ≡ take start middle ++ size_prefixed_encoding (drop start middle) → Minimizes w (size_prefixed F) bytes rest old new
sized_minimizes w F bytes content rest old middle new start h m e encodable is =
    let behind : drop start middle ≡ m.encoding = ap (drop start) m.appended ∙ drop_at old m.encoding start (sym e) in
    let before : take start middle ≡ old = ap (take start) m.appended ∙ take_at old m.encoding start (sym e) in
    record {
      value = m.value;
      decoded = filled_decodes F bytes content rest m.value h m.decoded;
      encoding = size_prefixed_encoding m.encoding;
      encodes = size_prefixed_in (minimal_of w) F m.encoding m.value (subst HasEncodableSize behind encodable) m.encodes;
      appended = is ∙ ap₂ (λ y z. y ++ size_prefixed_encoding z) before behind;
    }

pub ruleset appending = (front_kept, minimized_many, minimized_whole)
