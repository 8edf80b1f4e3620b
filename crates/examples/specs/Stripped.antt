-- This file defines a module without its custom sections.
use Rattle.std.specs.Prelude.{ℕ, List, [], ◌∷◌, ◌==◌, if◌then◌else◌}
use Rattle.wasm_base.specs.Words.{padded, wasm_module, DecodesWhole, number_of}
use Rattle.wasm_base.specs.declared.section_id.SectionId.TheVariants as ids

-- The sections that are not custom, in their order. A section is its id and its payload.
abbrev pub not_custom : List (ℕ × List ℕ) → List (ℕ × List ℕ)
not_custom [] = []
not_custom (s ∷ sections) = if s.0 == number_of ids.Custom then not_custom sections else s ∷ not_custom sections

-- The bytes are a module, and the new bytes are a module of exactly its sections that are not
-- custom.
pub record IsStripped (bytes new : List ℕ) : Type 0 where
  pub sections : List (ℕ × List ℕ)
  pub read : wasm_module padded bytes sections
  pub kept : DecodesWhole wasm_module new (not_custom sections)
