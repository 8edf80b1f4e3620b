-- This file defines the places of sections in a module.
use Rattle.std.specs.Prelude.{◌≡◌, ◌≢◌, ◌⊎◌, ℕ, suc, ◌<◌, ◌==◌, List, [], ◌∷◌, ◌++◌, length, map, cond}
use Rattle.std.specs.List.{AllByRecursion}
use Rattle.wasm_base.specs.Words.{wasm_module, DecodesWhole, number_of}
use Rattle.wasm_base.specs.declared.section_id.SectionId.TheVariants as ids
use Rattle.wasm_reader.specs.Iterating.{Located}
use Rattle.wasm_reader.specs.Outlines.{Section}

-- The sections of a list, without their offsets.
abbrev pub sections_in : List Located → List Section
sections_in = map (λ s. s.section)

-- The id and the payload of a section.
abbrev pub copied : Section → ℕ × List ℕ
copied s = (s.id, s.payload)

-- The module gains these sections.
abbrev pub AppendsSections : List (ℕ × List ℕ) → List ℕ → List ℕ → Type 0
AppendsSections news old new = (before : List (ℕ × List ℕ)) → DecodesWhole wasm_module old before → DecodesWhole wasm_module new (before ++ news)

-- ---- the standard's order

-- The ids of sections, in the order of the standard.
abbrev pub order : List ℕ
order = number_of ids.Types ∷ number_of ids.Import ∷ number_of ids.Function ∷ number_of ids.Table ∷ number_of ids.Memory ∷ number_of ids.Tag ∷ number_of ids.Global ∷ number_of ids.Export ∷ number_of ids.Start ∷ number_of ids.Element ∷ number_of ids.DataCount ∷ number_of ids.Code ∷ number_of ids.Data ∷ []

-- The place of an id in the list, counted from `n`, and 0 if the list lacks it.
abbrev pub rank_among : ℕ → List ℕ → ℕ → ℕ
rank_among n [] id = 0
rank_among n (k ∷ ks) id = cond (id == k) n (rank_among (suc n) ks id)

-- The place of an id in the order, counted from 1. Custom sections and other ids have 0.
abbrev pub rank_of : ℕ → ℕ
rank_of = rank_among 1 order

-- ---- places

-- No section has this id.
abbrev pub lacks : ℕ → List Section → Type 0
lacks id = AllByRecursion (λ s. s.id ≢ id)

-- The first section of this id, and those before and after it.
pub record IsFound (id : ℕ) (before : List Section) (s : Section) (after all : List Section) : Type 0 where
  pub split : all ≡ before ++ s ∷ after
  pub is : s.id ≡ id
  pub first : lacks id before

-- The section has no place in the standard's order.
abbrev pub IsFree : Section → Type 0
IsFree s = rank_of s.id ≡ 0

-- The section comes before one of this id in the standard's order.
abbrev pub ComesBefore : ℕ → Section → Type 0
ComesBefore id s = (rank_of s.id ≢ 0) × (rank_of s.id < rank_of id)

-- The last of the sections comes before one of this id.
abbrev pub EndsBefore : ℕ → List Section → Type 0
EndsBefore id ss = (front : List Section) × (s : Section) × (ss ≡ front ++ s ∷ []) × ComesBefore id s

-- The first of the sections has a place in the order, if there is one.
abbrev pub BeginsPlaced : List Section → Type 0
BeginsPlaced [] = Unit {0}
BeginsPlaced (s ∷ ss) = rank_of s.id ≢ 0

-- The place of a new section of this id between others: behind the last one that comes before it in
-- the order. If none does, it is in front of the first one that has a place in it.
pub record IsPlace (id : ℕ) (before after : List Section) : Type 0 where
  pub none_after : AllByRecursion (λ s. ComesBefore id s → ⊥) after
  pub behind : EndsBefore id before ⊎ (AllByRecursion IsFree before × BeginsPlaced after)
