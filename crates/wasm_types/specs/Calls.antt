-- This file defines calls that add types whose fields, parameters or results an iterator yields.
use Rattle.std.specs.Prelude.{◌≡◌, ◌≢◌, ℕ, ◌<◌, ◌≤◌, List, Result, Err, OnOk, OnErr, Option}
use Rattle.std.specs.Iterator.{Count, Drains, Yields, size}
use Rattle.std.specs.List.{All}
use Rattle.wasm_base.specs.Words.{longest, IsEncodableVec}
use Rattle.wasm_base.specs.Stores.{StoreModel}
use Rattle.wasm_base.specs.declared.refused.Refused.{Refused}
use Rattle.wasm_base.specs.declared.refused.Refused.TheVariants.{TooLong}

-- The section gains one entry of the items that the iterator yields, or the call returns an error
-- and changes nothing. If the iterator reports more than 2^32 - 1 items, the error is `TooLong`.
pub record AddsListed {M U S T : Type 0} (model : StoreModel M) (becomes : U → S → Type 0) (gives : S → Option T → S → Type 0) (remaining : S → Count) (Encodable : T → Type 0) (elements : U) (encoding : List T → List ℕ)
    (old new : M) (result : Result (Unit {0}) Refused) : Type 0 where
  pub ok : OnOk result ((it : S) × (xs : List T) × becomes elements it × Drains gives it xs × IsEncodableVec Encodable xs × model.gains (encoding xs) old new)
  pub err : OnErr result (new ≡ old)
  pub counted : OnOk result ((model.joins old).number < longest)
  pub too_long : ((it : S) → becomes elements it → size (remaining it) ≤ longest)
      → ((it left : S) (xs : List T) → becomes elements it → Yields gives it xs left → All Encodable xs)
      → (model.joins old).number < longest
      → result ≢ Err TooLong
  pub too_many : ((it : S) → becomes elements it → longest < size (remaining it)) → result ≡ Err TooLong

-- The section gains one entry of the items that both iterators yield, or the call returns an error
-- and changes nothing. If either reports more than 2^32 - 1 items, the error is `TooLong`.
pub record AddsTwoListed {M U S V W T : Type 0} (model : StoreModel M) (becomes : U → S → Type 0) (gives : S → Option T → S → Type 0) (remaining : S → Count) (becomes₂ : V → W → Type 0) (gives₂ : W → Option T → W → Type 0) (remaining₂ : W → Count)
    (first : U) (second : V) (encoding : List T → List T → List ℕ) (old new : M) (result : Result (Unit {0}) Refused) : Type 0 where
  pub ok : OnOk result ((it : S) × (other : W) × (xs ys : List T) × becomes first it × becomes₂ second other × Drains gives it xs × Drains gives₂ other ys
      × IsEncodableVec (λ t. Unit {0}) xs × IsEncodableVec (λ t. Unit {0}) ys × model.gains (encoding xs ys) old new)
  pub err : OnErr result (new ≡ old)
  pub counted : OnOk result ((model.joins old).number < longest)
  pub too_long : ((it : S) → becomes first it → size (remaining it) ≤ longest) → ((it : W) → becomes₂ second it → size (remaining₂ it) ≤ longest) → (model.joins old).number < longest → result ≢ Err TooLong
  pub too_many : ((it : S) → becomes first it → longest < size (remaining it)) → result ≡ Err TooLong
  pub too_many_results : ((it : W) → becomes₂ second it → longest < size (remaining₂ it)) → result ≡ Err TooLong
