-- This file defines the promises of calls that append to a buffer or add to a builder.
use Rattle.std.specs.Prelude.{◌≡◌, ◌≢◌, ℕ, ◌+◌, ◌<◌, ◌≤◌, List, [], ◌∷◌, ◌++◌, All, length, map, take, slice_get, vec_len, vec_capacity, Result, Err, OnOk, OnErr, IfErr, IfSome, IsOk}
use Rattle.std.specs.declared.vec.Vec.{Vec}
use Rattle.wasm_base.specs.Formats.{Format, wasm_module}
use Rattle.wasm_base.specs.Decoding.{DecodesUniquely, DecodesUniquelyPadded, DecodesWhole}
use Rattle.wasm_base.specs.Encodings.{longest}
use Rattle.wasm_base.specs.Stores.{StoreModel, pieces_model}
use Rattle.wasm_base.specs.declared.refused.Refused.{Refused}
use Rattle.wasm_base.specs.declared.refused.Refused.TheVariants.{TooLong}

-- The call appends the encoding, or returns an error and leaves the bytes as they were. If the
-- value fits, the call never returns `TooLong`, and it succeeds within the spare capacity.
pub record Appends {A : Type 0} (encoding : List ℕ) (encodable : Type 0) (old new : Vec ℕ A) (result : Result (Unit {0}) Refused) : Type 0 where
  pub ok : OnOk result (new.items ≡ old.items ++ encoding)
  pub err : OnErr result (new.items ≡ old.items)
  pub was_encodable : OnOk result encodable
  pub too_long : encodable → result ≢ Err TooLong
  pub spare : encodable → vec_len old + length encoding ≤ vec_capacity old → IsOk result
  pub capacity : vec_capacity old ≤ vec_capacity new

-- The builder gains one entry with this encoding, or the call returns an error and changes nothing.
-- A full builder, with 2^32 - 1 entries, returns `TooLong`.
pub record AddsTo {M : Type 0} (model : StoreModel M) (encoding : List ℕ) (encodable : Type 0) (old new : M) (result : Result (Unit {0}) Refused) : Type 0 where
  pub ok : OnOk result (model.gains encoding old new)
  pub err : OnErr result (new ≡ old)
  pub was_encodable : OnOk result encodable
  pub counted : OnOk result ((model.joins old).number < longest)
  pub too_long : encodable → (model.joins old).number < longest → result ≢ Err TooLong
  pub full : (model.joins old).number ≡ longest → result ≡ Err TooLong

-- `AddsTo` of a builder whose entries are a list of pieces.
abbrev pub Adds : List ℕ → Type 0 → List (List ℕ) → List (List ℕ) → Result (Unit {0}) Refused → Type 0
Adds encoding encodable old new result = AddsTo pieces_model encoding encodable old new result

-- The builder gains one entry for each of these items, in order.
pub record AddsEach {T : Type 0} (encoding : T → List ℕ) (Encodable : T → Type 0) (items : List T) (old new : List (List ℕ)) : Type 0 where
  pub is : new ≡ old ++ map encoding items
  pub was_encodable : All Encodable items
  pub counted : 0 < length items → length new ≤ longest

-- The builder gains all items; or it gains as many as the error reports, and the next item fails.
-- If the builder is full, the error is `TooLong`; if it is not and that item fits, it is another.
pub record AddsAll {T : Type 0} (encoding : T → List ℕ) (Encodable : T → Type 0) (items : List T) (old new : List (List ℕ)) (result : Result (Unit {0}) (ℕ × Refused)) : Type 0 where
  pub ok : OnOk result (AddsEach encoding Encodable items old new)
  pub err : IfErr result (λ stopped. (stopped.0 < length items) × AddsEach encoding Encodable (take stopped.0 items) old new)
  pub too_long : IfErr result (λ stopped. stopped.1 ≡ TooLong → IfSome (slice_get items stopped.0) (λ item. Encodable item → longest ≤ length new))
  pub full : IfErr result (λ stopped. length new ≡ longest → stopped.1 ≡ TooLong)

-- The headline of a section: `encoding` is the one minimal encoding of any items that satisfy
-- `Says`, and decodes to them alone.
pub record DecodesBack {Items : Type 0} (F : Format Items) (Says : Items → Type 0) (encoding : List ℕ) : Type 0 where
  pub for_each : (items : Items) → Says items → DecodesUniquely F encoding items

-- The headline for padded LEB128: `encoding` is a possibly padded encoding of any items that
-- satisfy `Says`, and decodes to them alone.
pub record DecodesBackPadded {Items : Type 0} (F : Format Items) (Says : Items → Type 0) (encoding : List ℕ) : Type 0 where
  pub for_each : (items : Items) → Says items → DecodesUniquelyPadded F encoding items

-- Both headlines, for minimal encodings and for padded ones.
pub record DecodesBackBoth {Items : Type 0} (F : Format Items) (Says SaysPadded : Items → Type 0) (encoding : List ℕ) : Type 0 where
  pub plain : DecodesBack F Says encoding
  pub padded : DecodesBackPadded F SaysPadded encoding

-- Composition of modules: if the old bytes decode to some sections alone, the new bytes decode to
-- these and one more. That section has this id, and any payload with the property.
pub record DecodesOneMore (Payload : List ℕ → Type 0) (id : ℕ) (old new : List ℕ) : Type 0 where
  pub for_each : (sections : List (ℕ × List ℕ)) (payload : List ℕ) → DecodesWhole wasm_module old sections → Payload payload
      → DecodesWhole wasm_module new (sections ++ (id, payload) ∷ [])
