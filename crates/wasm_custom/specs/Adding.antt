-- This file defines calls that add an entry whose items iterators yield.
use Rattle.std.specs.Prelude.{◌≡◌, ◌≢◌, ℕ, ◌<◌, ◌≤◌, List, Result, Err, OnOk, OnErr, Option}
use Rattle.std.specs.Iterator.{Count, Drains, Yields, size}
use Rattle.std.specs.List.{All}
use Rattle.wasm_base.specs.Words.{longest, IsEncodableVec}
use Rattle.wasm_base.specs.Stores.{StoreModel}
use Rattle.wasm_base.specs.declared.refused.Refused.{Refused}
use Rattle.wasm_base.specs.declared.refused.Refused.TheVariants.{TooLong}

-- The builder gains one entry of the items that the iterator yields, or the call returns an error
-- and changes nothing. It returns `TooLong` if there are too many items, and never if all items fit
-- and items and entries are few enough.
pub record AddsList {M U S T : Type 0} (model : StoreModel M) (becomes : U → S → Type 0) (gives : S → Option T → S → Type 0) (remaining : S → Count) (elements : U) (Encodable : T → Type 0) (encoding : List T → List ℕ)
    (old new : M) (result : Result (Unit {0}) Refused) : Type 0 where
  pub ok : OnOk result ((it : S) × (items : List T) × becomes elements it × Drains gives it items × IsEncodableVec Encodable items × model.gains (encoding items) old new)
  pub err : OnErr result (new ≡ old)
  pub counted : OnOk result ((model.joins old).number < longest)
  pub too_long : ((it : S) → becomes elements it → size (remaining it) ≤ longest) → ((it left : S) (xs : List T) → becomes elements it → Yields gives it xs left → All Encodable xs) → (model.joins old).number < longest → result ≢ Err TooLong
  pub too_many : ((it : S) → becomes elements it → longest < size (remaining it)) → result ≡ Err TooLong

-- The same for an entry of two lists.
pub record AddsTwoLists {M U S V R T W : Type 0} (model : StoreModel M) (becomes : U → S → Type 0) (gives : S → Option T → S → Type 0) (remaining : S → Count) (first : U)
    (turns : V → R → Type 0) (hands : R → Option W → R → Type 0) (left : R → Count) (second : V) (Encodable : T → Type 0) (Suits : W → Type 0) (encoding : List T → List W → List ℕ)
    (old new : M) (result : Result (Unit {0}) Refused) : Type 0 where
  pub ok : OnOk result ((it : S) × (xs : List T) × (jt : R) × (ys : List W) × becomes first it × Drains gives it xs × IsEncodableVec Encodable xs × turns second jt × Drains hands jt ys × IsEncodableVec Suits ys × model.gains (encoding xs ys) old new)
  pub err : OnErr result (new ≡ old)
  pub counted : OnOk result ((model.joins old).number < longest)
  pub too_long : ((it : S) → becomes first it → size (remaining it) ≤ longest) → ((jt : R) → turns second jt → size (left jt) ≤ longest)
      → ((it end : S) (xs : List T) → becomes first it → Yields gives it xs end → All Encodable xs) → ((jt end : R) (ys : List W) → turns second jt → Yields hands jt ys end → All Suits ys)
      → (model.joins old).number < longest → result ≢ Err TooLong
  pub too_many : ((it : S) → becomes first it → longest < size (remaining it)) → result ≡ Err TooLong
  pub too_many_then : ((jt : R) → turns second jt → longest < size (left jt)) → result ≡ Err TooLong
