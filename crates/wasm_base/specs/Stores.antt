-- This file defines stores of entries: lists of pieces, and states that keep the bytes of all
-- entries and their number, but not where each entry ends.
use Rattle.std.specs.Prelude.{◌≡◌, ℕ, ◌+◌, ◌<◌, ◌≤◌, List, ◌∷◌, [], ◌++◌, length}
use Rattle.wasm_base.specs.Numbers.{unsigned_encoding}
use Rattle.wasm_base.specs.Encodings.{longest, size_prefixed_encoding, HasEncodableSize, IsSizePrefixed}
use Rattle.wasm_base.specs.Pieces.{joined, section_encoding, IsEncodableSection}
use Rattle.std.proofs.Common.{refl, sym, ap, subst, ◌∙◌}

-- The number of entries, and their encodings one after another.
pub record Joined : Type 0 where
  pub number : ℕ
  pub content : List ℕ

-- Some pieces, as many as there are entries, join to the content and have the property.
pub record Cut (P : List (List ℕ) → Type 0) (j : Joined) : Type 0 where
  pub pieces : List (List ℕ)
  pub number : length pieces ≡ j.number
  pub content : joined pieces ≡ j.content
  pub are : P pieces

-- One more piece of this encoding turns the property `P` of as many pieces as `number` into `Q`.
abbrev pub Extends : ℕ → List ℕ → (List (List ℕ) → Type 0) → (List (List ℕ) → Type 0) → Type 0
Extends number encoding P Q = (pieces : List (List ℕ)) → length pieces ≡ number → P pieces → Q (pieces ++ encoding ∷ [])

-- How a state holds entries: their number and bytes, whether `new` has the entries of `old` and
-- then one of this encoding, and whether the entries have a property of pieces.
pub record StoreModel (M : Type 0) : Type 1 where
  pub joins : M → Joined
  pub gains : List ℕ → M → M → Type 0
  pub holds : (List (List ℕ) → Type 0) → M → Type 0

-- A list of pieces, each of which is an entry.
abbrev pub pieces_model : StoreModel (List (List ℕ))
pieces_model = record {
  joins = λ pieces. record { number = length pieces; content = joined pieces };
  gains = λ encoding old new. new ≡ old ++ encoding ∷ [];
  holds = λ P pieces. P pieces;
}

-- The content grows by one encoding, and the number by one.
pub record Gains (encoding : List ℕ) (old new : Joined) : Type 0 where
  pub content : new.content ≡ old.content ++ encoding
  pub number : new.number ≡ old.number + 1

-- A number of entries and their bytes. They have a property if they can be cut into pieces that
-- have it.
abbrev pub joined_model : StoreModel Joined
joined_model = record { joins = λ j. j; gains = Gains; holds = Cut }

-- The payload of a counted section: the number of entries, and the entries.
abbrev pub joined_payload : Joined → List ℕ
joined_payload j = unsigned_encoding j.number ++ j.content

-- The encoding of a counted section without its id: a size prefix and the payload.
unfoldable pub joined_encoding : Joined → List ℕ
joined_encoding j = size_prefixed_encoding (joined_payload j)

-- The count and the size of the section are at most 2^32 - 1.
pub record IsEncodableJoined (j : Joined) : Type 0 where
  pub count : j.number ≤ longest
  pub size : HasEncodableSize (joined_payload j)

-- The size of the section is more than 2^32 - 1.
abbrev pub IsOverlongJoined : Joined → Type 0
IsOverlongJoined j = longest < length (joined_payload j)

-- The encoding of a list of pieces is that of their number and their bytes.
pub pieces_encode : (pieces : List (List ℕ)) → section_encoding pieces ≡ joined_encoding (pieces_model.joins pieces)
unfolding section_encoding joined_encoding
pieces_encode pieces = refl

-- Pieces that fit in a section have a number and a size that fit.
pub pieces_fit : (pieces : List (List ℕ)) → IsEncodableSection pieces → IsEncodableJoined (pieces_model.joins pieces)
pieces_fit pieces fits = record { count = fits.count; size = fits.size }

-- The encoding of entries that fit is their size-prefixed payload.
pub joined_sized : (j : Joined) (encoding bytes : List ℕ) → encoding ≡ joined_encoding j → IsEncodableJoined j → bytes ≡ joined_payload j → IsSizePrefixed encoding bytes
unfolding joined_encoding
joined_sized j encoding bytes is fits e = record { is = is ∙ ap size_prefixed_encoding (sym e); encodable = subst HasEncodableSize (sym e) fits.size }
