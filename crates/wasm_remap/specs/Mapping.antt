-- This file defines maps of indices, and where the errors of a map come from.
use Rattle.std.specs.Prelude.{◌≡◌, ℕ, ◌<◌, ◌^◌, Option, Some, None}
use Rattle.wasm_base.specs.declared.refused.Refused.TheVariants as refusals
use Rattle.wasm_remap.specs.declared.indexed.RemapError.{RemapError}
use Rattle.wasm_remap.specs.declared.indexed.RemapError.TheVariants.{Read, Refused, Index, Offsets}
use Rattle.wasm_remap.specs.declared.spaces.IndexSpace.{IndexSpace}

-- For each index space, the new index of each old one.
abbrev pub Mapping : Type 0
Mapping = IndexSpace → ℕ → ℕ

-- The new indices are below 2^32.
abbrev pub IsSmall : Mapping → Type 0
IsSmall m = (space : IndexSpace) (n : ℕ) → n < 2 ^ 32 → m space n < 2 ^ 32

-- The mapping has the new index of each index that the map accepts. What it has for rejected indices is
-- free, so a result that is the same by each such mapping does not depend on them.
abbrev pub Follows : {E : Type 0} → Mapping → (IndexSpace → ℕ → E → Type 0) → Mapping → Type 0
Follows {E = E} mapped rejects m = (space : IndexSpace) (n : ℕ) → ((e : E) → rejects space n e → ⊥) → m space n ≡ mapped space n

-- A number, which is an index if it has an index space.
abbrev pub mapped_in : Mapping → Option IndexSpace → ℕ → ℕ
mapped_in m None n = n
mapped_in m (Some space) n = m space n

-- A pair whose first number is mapped.
abbrev pub mapped_first : {X : Type 0} → Mapping → Option IndexSpace → ℕ × X → ℕ × X
mapped_first m space p = (mapped_in m space p.0, p.1)

-- The map rejects some index with this error.
abbrev pub IsRejected : {E : Type 0} → (IndexSpace → ℕ → E → Type 0) → E → Type 0
IsRejected rejects e = (space : IndexSpace) × (n : ℕ) × rejects space n e

-- The map rejected an index with this error, or there was no memory.
abbrev pub ComesFrom : {E : Type 0} → (IndexSpace → ℕ → E → Type 0) → RemapError E → Type 0
ComesFrom rejects (Read fault) = ⊥
ComesFrom rejects (Refused refused) = refused ≡ refusals.Memory
ComesFrom rejects (Offsets offset) = ⊥
ComesFrom rejects (Index e) = IsRejected rejects e
