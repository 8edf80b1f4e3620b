-- This file defines a walk: a value is decoded, and an effect takes its minimal encoding. An effect
-- appends the bytes that it takes, or drops them. The states of an effect are a type `E`, and
-- `seen e l` says that `l` may be all the bytes that the state `e` has taken.
use Rattle.std.specs.Prelude.{ℕ, List, ◌++◌, ◌≡◌, length}
use Rattle.wasm_base.specs.Numbers.{Grammar, minimal_of, padded_of}
use Rattle.wasm_base.specs.Formats.{Format, vec}
use Rattle.wasm_base.specs.Decoding.{Decodes}
use Rattle.wasm_base.specs.Minimal.{Grammars, Includes}

-- The state takes these bytes.
pub record TakesBytes {E : Type 0} (seen : E → List ℕ → Type 0) (bytes : List ℕ) (old new : E) : Type 0 where
  pub after : (l : List ℕ) → seen old l → seen new (l ++ bytes)

-- The state takes some bytes, so all earlier ones stay.
pub record Keeps {E : Type 0} (seen : E → List ℕ → Type 0) (old new : E) : Type 0 where
  pub after : (l : List ℕ) → seen old l → (more : List ℕ) × seen new (l ++ more)

-- A state that does not change has taken any bytes.
pub record IsIdle {E : Type 0} (seen : E → List ℕ → Type 0) : Type 0 where
  pub stays : (bytes : List ℕ) (e : E) → TakesBytes seen bytes e e

-- In each of these grammars in which some bytes decode to `x`, the state takes the minimal encoding
-- of `x`.
pub record TakesMinimal {E X : Type 0} (seen : E → List ℕ → Type 0) (k : Grammars) (F : Format X) (x : X) (old new : E) : Type 0 where
  pub encoded : (w : Grammar) → Includes k w → (s : List ℕ) → F (padded_of w) s x → (encoding : List ℕ) × F (minimal_of w) encoding x × TakesBytes seen encoding old new

-- The number marks the end of all bytes that the state has taken.
pub record Marks {E : Type 0} (seen : E → List ℕ → Type 0) (mark : ℕ → List ℕ → Type 0) (e : E) (n : ℕ) : Type 0 where
  pub at : (l : List ℕ) → seen e l → mark n l

-- The state has taken bytes up to the mark, and more.
pub record IsMarked {E : Type 0} (seen : E → List ℕ → Type 0) (mark : ℕ → List ℕ → Type 0) (e : E) (n : ℕ) : Type 0 where
  pub front : List ℕ
  pub content : List ℕ
  pub marked : mark n front
  pub taken : seen e (front ++ content)

-- The bytes after the mark become `f` of them.
pub record Replaces {E : Type 0} (seen : E → List ℕ → Type 0) (mark : ℕ → List ℕ → Type 0) (f : List ℕ → List ℕ) (n : ℕ) (old new : E) : Type 0 where
  pub after : (l s : List ℕ) → mark n l → seen old (l ++ s) → seen new (l ++ f s)

-- The bytes up to the mark stay.
pub record KeepsMarked {E : Type 0} (seen : E → List ℕ → Type 0) (mark : ℕ → List ℕ → Type 0) (n : ℕ) (old new : E) : Type 0 where
  pub after : (l s : List ℕ) → mark n l → seen old (l ++ s) → (more : List ℕ) × seen new (l ++ more)

-- A value decodes from the front of the bytes in this grammar, and `rest` follows it. The state
-- takes the minimal encoding of the value in this grammar.
pub record Walks {E X : Type 0} (seen : E → List ℕ → Type 0) (w : Grammar) (F : Format X) (bytes rest : List ℕ) (old new : E) : Type 0 where
  pub value : X
  pub decoded : Decodes F (padded_of w) bytes value rest
  pub encoding : List ℕ
  pub encodes : F (minimal_of w) encoding value
  pub taken : TakesBytes seen encoding old new

-- The same for a vector of this many members.
pub record WalksMany {E X : Type 0} (seen : E → List ℕ → Type 0) (w : Grammar) (F : Format X) (bytes : List ℕ) (count : ℕ) (rest : List ℕ) (old new : E) : Type 0 where
  pub value : List X
  pub decoded : Decodes (vec F) (padded_of w) bytes value rest
  pub counted : count ≡ length value
  pub encoding : List ℕ
  pub encodes : vec F (minimal_of w) encoding value
  pub taken : TakesBytes seen encoding old new

-- The same for a value that occupies all of the bytes.
pub record WalksWhole {E X : Type 0} (seen : E → List ℕ → Type 0) (w : Grammar) (F : Format X) (bytes : List ℕ) (old new : E) : Type 0 where
  pub value : X
  pub decoded : F (padded_of w) bytes value
  pub encoding : List ℕ
  pub encodes : F (minimal_of w) encoding value
  pub taken : TakesBytes seen encoding old new

-- Whatever bytes a value decodes from in this grammar, its encoding is the minimal one there.
pub record EncodesIn {T X : Type 0} (w : Grammar) (F : Format X) (view : T → X) (encoding : T → List ℕ) : Type 0 where
  pub minimal_in : (s : List ℕ) (x : T) → F (padded_of w) s (view x) → F (minimal_of w) (encoding x) (view x)
