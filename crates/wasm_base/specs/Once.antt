-- This file defines values that are encoded once, since the iterator in them is consumed, and the
-- calls that encode them.
use Rattle.std.specs.Prelude.{◌≡◌, ◌≢◌, ℕ, ◌<◌, ◌≤◌, List, ◌++◌, length, vec_capacity, Result, Err, OnOk, OnErr, Option}
use Rattle.std.specs.Iterator.{Count, Drains, Yields, IsFinite}
use Rattle.std.specs.List.{All}
use Rattle.std.specs.declared.vec.Vec.{Vec}
use Rattle.wasm_base.specs.Stores.{StoreModel, pieces_model}
use Rattle.wasm_base.specs.Encodings.{longest, vec_encoding, IsEncodableVec, size_prefixed_encoding, HasEncodableSize}
use Rattle.wasm_base.specs.declared.refused.Refused.{Refused}
use Rattle.wasm_base.specs.declared.refused.Refused.TheVariants.{TooLong}

-- The call appends one of the encodings that the value may have, or returns an error and leaves the
-- bytes as they were.
pub record AppendsOnce {A : Type 0} (Gives : List ℕ → Type 0) (encodable : Type 0) (old new : Vec ℕ A) (result : Result (Unit {0}) Refused) : Type 0 where
  pub ok : OnOk result ((encoding : List ℕ) × Gives encoding × (new.items ≡ old.items ++ encoding))
  pub err : OnErr result (new.items ≡ old.items)
  pub too_long : encodable → result ≢ Err TooLong
  pub capacity : vec_capacity old ≤ vec_capacity new

-- The builder gains one entry with one of these encodings, or the call returns an error and changes
-- nothing. A full builder, with 2^32 - 1 entries, returns `TooLong`.
pub record AddsOnceTo {M : Type 0} (model : StoreModel M) (Gives : List ℕ → Type 0) (encodable : Type 0) (old new : M) (result : Result (Unit {0}) Refused) : Type 0 where
  pub ok : OnOk result ((encoding : List ℕ) × Gives encoding × model.gains encoding old new)
  pub err : OnErr result (new ≡ old)
  pub counted : OnOk result ((model.joins old).number < longest)
  pub too_long : encodable → (model.joins old).number < longest → result ≢ Err TooLong
  pub full : (model.joins old).number ≡ longest → result ≡ Err TooLong

-- `AddsOnceTo` of a builder whose entries are a list of pieces.
abbrev pub AddsOnce : (List ℕ → Type 0) → Type 0 → List (List ℕ) → List (List ℕ) → Result (Unit {0}) Refused → Type 0
AddsOnce Gives encodable old new result = AddsOnceTo pieces_model Gives encodable old new result

-- The iterator may be called, ends, and yields exactly `count` items. The count is at most
-- 2^32 - 1.
pub record ReportsCount {S T : Type 0} (can_next : S → Type 0) (gives : S → Option T → S → Type 0) (remaining : S → Count) (it : S) (count : ℕ) : Type 0 where
  pub can : can_next it
  pub finite : IsFinite (remaining it)
  pub reported : (xs : List T) → Drains gives it xs → length xs ≡ count
  pub counted : count ≤ longest

-- The bytes are the encoding of the vector of the items that the iterator yields.
pub record GivesVec {S T : Type 0} (gives : S → Option T → S → Type 0) (Encodable : T → Type 0) (encoding : T → List ℕ) (it : S) (s : List ℕ) : Type 0 where
  pub items : List T
  pub drained : Drains gives it items
  pub encodable : IsEncodableVec Encodable items
  pub is : s ≡ vec_encoding encoding items

-- The bytes are size-prefixed bytes, those that the iterator yields.
pub record GivesBytes {S : Type 0} (gives : S → Option ℕ → S → Type 0) (it : S) (s : List ℕ) : Type 0 where
  pub bytes : List ℕ
  pub drained : Drains gives it bytes
  pub encodable : HasEncodableSize bytes
  pub is : s ≡ size_prefixed_encoding bytes

-- The bytes are `front` and then one of the possible encodings of a second value.
pub record GivesPair (front : List ℕ) (encodable : Type 0) (Gives : List ℕ → Type 0) (s : List ℕ) : Type 0 where
  pub back : List ℕ
  pub was_encodable : encodable
  pub given : Gives back
  pub is : s ≡ front ++ back

-- The bytes are `front` and then one of the possible encodings of each of two values.
pub record GivesTriple (front : List ℕ) (encodable : Type 0) (First Second : List ℕ → Type 0) (s : List ℕ) : Type 0 where
  pub middle : List ℕ
  pub back : List ℕ
  pub was_encodable : encodable
  pub first : First middle
  pub second : Second back
  pub is : s ≡ front ++ (middle ++ back)

-- All items that the iterator ever yields fit.
abbrev pub YieldsEncodable : {S T : Type 0} → (S → Option T → S → Type 0) → (T → Type 0) → S → Type 0
YieldsEncodable {S} {T} gives Encodable it = (left : S) (xs : List T) → Yields gives it xs left → All Encodable xs
