-- This file defines lists that a caller passes as one argument: name maps and symbol tables, say.
use Rattle.std.specs.Prelude.{◌≡◌, ℕ, ◌<◌, List, [], ◌∷◌, ◌++◌, length, map, Option, Some, None, ⊤}
use Rattle.std.specs.Borrow.{Bor}
use Rattle.wasm_base.specs.Words.{longest, vec_encoding, IsEncodableVec, HasEncodableSize}
use Rattle.wasm_base.specs.Stores.{Joined, Cut, joined_payload}
use Rattle.wasm_custom.specs.Customs.{subsection_encoding}

-- The encoding of a list's entries as a vector: their count, then the entries.
unfoldable pub list_encoding : Joined → List ℕ
list_encoding j = joined_payload j

-- The encoding of a list: the vector of its entries, by itself or as a subsection of this id.
abbrev pub listed_encoding : Option ℕ → Joined → List ℕ
listed_encoding None j = list_encoding j
listed_encoding (Some id) j = subsection_encoding id (list_encoding j)

-- The size of a subsection is at most 2^32 - 1. A list by itself always fits.
abbrev pub IsEncodableList : Option ℕ → Joined → Type 0
IsEncodableList None j = ⊤
IsEncodableList (Some id) j = HasEncodableSize (list_encoding j) × ⊤

-- The pieces are the encodings of these members, one each. There are at most 2^32 - 1 members, and
-- each has the property.
pub record IsListOf {X : Type 0} (encoding : X → List ℕ) (Is : X → Type 0) (pieces : List (List ℕ)) (xs : List X) : Type 0 where
  pub held : pieces ≡ map encoding xs
  pub encodable : IsEncodableVec Is xs

-- The pieces are the encodings of some members with the property.
pub record ContainsList {X : Type 0} (encoding : X → List ℕ) (Is : X → Type 0) (pieces : List (List ℕ)) : Type 0 where
  pub list : List X
  pub is : IsListOf encoding Is pieces list

-- The bytes are the encoding of some member with the property.
pub record IsEncodingOf {X : Type 0} (encoding : X → List ℕ) (Is : X → Type 0) (piece : List ℕ) : Type 0 where
  pub member : X
  pub is : piece ≡ encoding member
  pub encodable : Is member

-- The encoding of a list that holds members is the vector of these members.
pub record IsVectorOf {X : Type 0} (encoding : X → List ℕ) (Is : X → Type 0) : Type 0 where
  pub is : (j : Joined) (xs : List X) → Cut (λ pieces. IsListOf encoding Is pieces xs) j → list_encoding j ≡ vec_encoding encoding xs

-- A list without entries holds no members. An entry that is the encoding of a member adds this
-- member, if the list is not full.
pub record ListMore {X : Type 0} (encoding : X → List ℕ) (Is : X → Type 0) : Type 0 where
  pub none : IsListOf encoding Is [] []
  pub given : (pieces : List (List ℕ)) (xs : List X) (x : X) → IsListOf encoding Is pieces xs → length pieces < longest → Is x → IsListOf encoding Is (pieces ++ encoding x ∷ []) (xs ++ x ∷ [])

-- The bytes of an optional name that is borrowed.
abbrev pub given_name : Option (Bor (List ℕ)) → Option (List ℕ)
given_name None = None
given_name (Some n) = Some n.now
