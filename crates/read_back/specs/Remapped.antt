-- This file defines modules in which each function has the next index.
use Rattle.std.specs.Prelude.{◌≡◌, ℕ, ◌+◌, ◌<◌, ◌^◌, ◌==◌, List, length, cond}
use Rattle.wasm_base.specs.Words.{standard, standard_minimal}
use Rattle.wasm_reader.specs.Words.{Contents, Section, content, kind_in, section_kind_of}
use Rattle.wasm_remap.specs.Sections.{remapped}
use Rattle.wasm_remap.specs.declared.spaces.IndexSpace.{IndexSpace}
use Rattle.wasm_remap.specs.declared.spaces.IndexSpace.TheVariants as spaces

-- The next number, and the number itself if it is the last of 32 bits.
abbrev pub next : ℕ → ℕ
next n = cond (n == 0xFFFFFFFF) n (n + 1)

-- The next index of a function, and each other index as it is.
abbrev pub next_function : IndexSpace → ℕ → ℕ
next_function spaces.Functions n = next n
next_function space n = n

-- No function has the next index.
abbrev pub IsLast : IndexSpace → ℕ → Type 0
IsLast space n = (space ≡ spaces.Functions) × (n ≡ 0xFFFFFFFF)

-- The first function for the second, the second for the first, and each other index as it is.
abbrev pub exchanged : (first second : ℕ) → IndexSpace → ℕ → ℕ
exchanged first second spaces.Functions n = cond (n == first) second (cond (n == second) first n)
exchanged first second space n = n

-- The section decodes to items. If it has fewer than 2^26 bytes, the new bytes are the minimal
-- encoding of the items in which each function has the next index, as a payload.
pub record IsRemapped (s : Section) (new : List ℕ) : Type 0 where
  pub items : Contents
  pub decoded : content (section_kind_of s) standard s.payload items
  pub encoded : length s.payload < 2 ^ 26 → content (kind_in (remapped next_function items)) standard_minimal new (remapped next_function items)
