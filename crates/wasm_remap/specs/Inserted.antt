-- This file defines modules into which a section is inserted.
use Rattle.std.specs.Prelude.{◌≡◌, ◌≢◌, ◌⊎◌, ℕ, ◌+◌, ◌<◌, ◌^◌, List, [], ◌∷◌, ◌++◌, map, Bool, true, false, not, ◌==◌, ◌||◌}
use Rattle.wasm_base.specs.Words.{Format, standard, u32, vec, unsigned_encoding, wasm_module, Decodes, DecodesWhole, number_of}
use Rattle.wasm_base.specs.declared.section_id.SectionId.TheVariants as ids
use Rattle.wasm_reader.specs.Outlines.{HasSections, Section}
use Rattle.wasm_remap.specs.Places.{IsFound, IsPlace, copied, lacks, rank_of}
use Rattle.wasm_remap.specs.declared.insert.Position.{Position}
use Rattle.wasm_remap.specs.declared.insert.Position.TheVariants.{First, Last, Instead}

-- Whether the payload of a section of this id is no list: it is one number.
abbrev pub is_number : ℕ → Bool
is_number id = (id == number_of ids.Start) || (id == number_of ids.DataCount)

-- A list of new members and old ones.
abbrev pub joined_lists : {X : Type 0} → Position → List X → List X → List X
joined_lists First new old = new ++ old
joined_lists Last new old = old ++ new
joined_lists Instead new old = new

-- The payload of a list has the members of a new list and of an old one: the sum of their counts,
-- and the bytes of their members.
pub record IsJoined (p : Position) (new old joined : List ℕ) : Type 0 where
  pub new_count : ℕ
  pub new_members : List ℕ
  pub new_read : Decodes u32 standard new new_count new_members
  pub old_count : ℕ
  pub old_members : List ℕ
  pub old_read : Decodes u32 standard old old_count old_members
  pub fits : new_count + old_count < 2 ^ 32
  pub is : joined ≡ unsigned_encoding (new_count + old_count) ++ joined_lists p new_members old_members

-- The payload of the section of this id, for a new payload and the old one.
abbrev pub IsPayload : Position → ℕ → (new old payload : List ℕ) → Type 0
IsPayload p id new old payload =
    ((p ≢ Instead) × (is_number id ≡ false) × IsJoined p new old payload)
    ⊎ (((p ≡ Instead) ⊎ (is_number id ≡ true)) × (payload ≡ new))

-- These sections with one of this id and payload between them.
abbrev pub between : List Section → ℕ → List ℕ → List Section → List (ℕ × List ℕ)
between before id payload after = map copied before ++ (id, payload) ∷ map copied after

-- The first section of the id has the new members too.
pub record IsExtended (p : Position) (id : ℕ) (new : List ℕ) (olds : List Section) (news : List (ℕ × List ℕ)) : Type 0 where
  pub before : List Section
  pub section : Section
  pub after : List Section
  pub found : IsFound id before section after olds
  pub payload : List ℕ
  pub has : IsPayload p id new section.payload payload
  pub are : news ≡ between before id payload after

-- There is a new section of the id. A section without a place in the standard's order is the last one.
pub record IsAdded (id : ℕ) (new : List ℕ) (olds : List Section) (news : List (ℕ × List ℕ)) : Type 0 where
  pub before : List Section
  pub after : List Section
  pub split : olds ≡ before ++ after
  pub ordered : rank_of id ≢ 0 → lacks id olds × IsPlace id before after
  pub last : rank_of id ≡ 0 → after ≡ []
  pub are : news ≡ between before id new after

-- The bytes are a module, and the new bytes are a module that has the new section too: in the first
-- one of its id, or as one more.
pub record InsertsSection (p : Position) (id : ℕ) (new bytes edited : List ℕ) : Type 0 where
  pub olds : List Section
  pub has : HasSections bytes olds
  pub news : List (ℕ × List ℕ)
  pub are : ((rank_of id ≢ 0) × IsExtended p id new olds news) ⊎ IsAdded id new olds news
  pub decodes : DecodesWhole wasm_module edited news

-- The bytes are a module, and the edited bytes are a module that has these members too, in the
-- standard's grammar: joined with those that the first section of the id decodes to, or in a new
-- section at its place if there is none.
pub record GainsMembers {X : Type 0} (p : Position) (id : ℕ) (F : Format X) (xs : List X) (bytes edited : List ℕ) : Type 0 where
  pub olds : List Section
  pub has : HasSections bytes olds
  pub before : List Section
  pub after : List Section
  pub payload : List ℕ
  pub members :
      ((section : Section) × IsFound id before section after olds × ((ys : List X) → vec F standard section.payload ys → vec F standard payload (joined_lists p xs ys)))
      ⊎ ((olds ≡ before ++ after) × (rank_of id ≢ 0 → lacks id olds × IsPlace id before after) × vec F standard payload xs)
  pub decodes : DecodesWhole wasm_module edited (between before id payload after)
