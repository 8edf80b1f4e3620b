-- This file defines calls that append the minimal encoding of a value, which was decoded before or
-- is decoded by the call.
use Rattle.std.specs.Prelude.{◌≡◌, ℕ, List, ◌++◌}
use Rattle.wasm_base.specs.Numbers.{Grammar, builders, admitted, minimal_of, padded_of}
use Rattle.wasm_base.specs.Formats.{Format}
use Rattle.wasm_base.specs.Decoding.{Decodes}

-- The grammars whose minimal encodings a call writes.
pub data Grammars : Type 0 where
  builders_alone : Grammars
  both_grammars : Grammars

-- The grammar is one of them.
abbrev pub Includes : Grammars → Grammar → Type 0
Includes builders_alone builders = Unit {0}
Includes builders_alone admitted = ⊥
Includes both_grammars w = Unit {0}

-- What both of them include.
abbrev pub common_grammars : Grammars → Grammars → Grammars
common_grammars builders_alone k = builders_alone
common_grammars both_grammars k = k

-- In each of these grammars in which some bytes decode to `x`, `encoding` is the minimal encoding
-- of `x`.
abbrev pub IsMinimalEncoding : {X : Type 0} (k : Grammars) (F : Format X) (x : X) (encoding : List ℕ) → Type 0
IsMinimalEncoding k F x encoding = (w : Grammar) → Includes k w → (s : List ℕ) → F (padded_of w) s x → F (minimal_of w) encoding x

-- The call appends the minimal encoding of `x` in each of these grammars.
pub record AppendsMinimal {X : Type 0} (k : Grammars) (F : Format X) (x : X) (old new : List ℕ) : Type 0 where
  pub encoding : List ℕ
  pub appended : new ≡ old ++ encoding
  pub encodes : IsMinimalEncoding k F x encoding

-- Some bytes decode to the value in one of these grammars.
pub record HasEncoding {X : Type 0} (k : Grammars) (F : Format X) (x : X) : Type 0 where
  pub grammar : Grammar
  pub included : Includes k grammar
  pub bytes : List ℕ
  pub decoded : F (padded_of grammar) bytes x

-- The new bytes begin with the old ones.
abbrev pub IsFrontOf : List ℕ → List ℕ → Type 0
IsFrontOf old new = (more : List ℕ) × (new ≡ old ++ more)

-- A value decodes from the front of the bytes in this grammar, and `rest` follows it. The call
-- appends the minimal encoding of the value in this grammar.
pub record Minimizes {X : Type 0} (w : Grammar) (F : Format X) (bytes rest old new : List ℕ) : Type 0 where
  pub value : X
  pub decoded : Decodes F (padded_of w) bytes value rest
  pub encoding : List ℕ
  pub encodes : F (minimal_of w) encoding value
  pub appended : new ≡ old ++ encoding

-- The bytes as a whole decode to a value in this grammar, and the call appends the minimal encoding
-- of the value in this grammar.
pub record MinimizesWhole {X : Type 0} (w : Grammar) (F : Format X) (bytes old new : List ℕ) : Type 0 where
  pub value : X
  pub decoded : F (padded_of w) bytes value
  pub encoding : List ℕ
  pub encodes : F (minimal_of w) encoding value
  pub appended : new ≡ old ++ encoding

-- Whatever bytes a value decodes from, its encoding is the minimal one in the same grammar.
pub record EncodesMinimally {T X : Type 0} (F : Format X) (view : T → X) (encoding : T → List ℕ) : Type 0 where
  pub minimal_in : (w : Grammar) (s : List ℕ) (x : T) → F (padded_of w) s (view x) → F (minimal_of w) (encoding x) (view x)
