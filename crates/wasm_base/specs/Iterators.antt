-- This file defines iterators whose length is known before any item is taken.
use Rattle.std.specs.Prelude.{◌≡◌, ◌≢◌, ℕ, ◌<◌, ◌≤◌, List, ◌++◌, length, vec_capacity, Result, Err, OnOk, OnErr, Option}
use Rattle.std.specs.Iterator.{Count, Drains, Yields, size}
use Rattle.std.specs.List.{All}
use Rattle.std.specs.declared.vec.Vec.{Vec}
use Rattle.wasm_base.specs.Encodings.{longest, vec_encoding, IsEncodableVec}
use Rattle.wasm_base.specs.declared.refused.Refused.{Refused}
use Rattle.wasm_base.specs.declared.refused.Refused.TheVariants.{TooLong}

-- Each iterator of the elements may be called, and yields as many items as it reports.
pub record HasKnownLength {U S T : Type 0} (becomes : U → S → Type 0) (can_next : S → Type 0) (gives : S → Option T → S → Type 0) (remaining : S → Count) (elements : U) : Type 0 where
  pub can : (it : S) → becomes elements it → can_next it
  pub reported : (it : S) (xs : List T) → becomes elements it → Drains gives it xs → length xs ≡ size (remaining it)

-- The call appends the vector of the items that the iterator yields, or returns an error and leaves
-- the bytes as they were. It returns `TooLong` if the iterator reports more than 2^32 - 1 items.
pub record AppendsVec {U S T A : Type 0} (becomes : U → S → Type 0) (gives : S → Option T → S → Type 0) (remaining : S → Count) (Encodable : T → Type 0) (encoding : T → List ℕ)
    (elements : U) (old new : Vec ℕ A) (result : Result (Unit {0}) Refused) : Type 0 where
  pub ok : OnOk result ((it : S) × (xs : List T) × becomes elements it × Drains gives it xs × IsEncodableVec Encodable xs × (new.items ≡ old.items ++ vec_encoding encoding xs))
  pub err : OnErr result (new.items ≡ old.items)
  pub too_long : ((it : S) → becomes elements it → size (remaining it) ≤ longest)
      → ((it left : S) (xs : List T) → becomes elements it → Yields gives it xs left → All Encodable xs)
      → result ≢ Err TooLong
  pub too_many : ((it : S) → becomes elements it → longest < size (remaining it)) → result ≡ Err TooLong
  pub capacity : vec_capacity old ≤ vec_capacity new
