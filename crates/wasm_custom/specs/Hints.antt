-- This file defines branch hints, their encoding and their format. Branch hinting, section
-- `metadata.code.branch_hint`.
use Rattle.std.specs.Prelude.{ℕ, ◌^◌, ◌<◌, List, [], ◌∷◌, ◌++◌, codes}
use Rattle.std.specs.declared.vec.Vec.{Vec}
use Rattle.wasm_base.specs.Words.{Kind, ContainsItems, Format, u32, byte, mapped, pair, prefixed, such, unsigned_encoding, SectionDecoding}
use Rattle.wasm_custom.specs.CodeMetadata.{HintsIn, hints_in, hints_in_items}
use Rattle.wasm_custom.specs.Customs.{decoding_as}
use Rattle.wasm_custom.specs.Entries.{counted_payload}
use Rattle.wasm_custom.specs.declared.hints.BranchHint.{BranchHint}

-- The encoding of a branch hint: the offset of the branch, the size 01 of the value, and the value.
abbrev pub hint_encoding : BranchHint → List ℕ
hint_encoding h = unsigned_encoding h.branch_func_offset ++ (0x01 ∷ unsigned_encoding h.branch_hint_value)

-- The branch hint is well-formed: its offset is below 2^32, and its value is below 128, so that it
-- has one byte.
pub record IsHint (h : BranchHint) : Type 0 where
  pub offset : h.branch_func_offset < 2 ^ 32
  pub value : h.branch_hint_value < 128

-- A function index, and the hints of the function's branches.
abbrev pub Hints : Type 0
Hints = HintsIn BranchHint

-- The branch hint of this offset and this value.
abbrev pub hint_of : ℕ × ℕ → BranchHint
hint_of parts = record { branch_func_offset = parts.0; branch_hint_value = parts.1 }

-- A branch hint: an offset, the fixed byte 01, and a byte below 128, the value.
abbrev pub hint : Format BranchHint
hint = mapped hint_of (pair u32 (prefixed (0x01 ∷ []) (such (λ b. b < 128) byte)))

-- A function's hints: its index, and a vector of branch hints.
abbrev pub hints : Format Hints
hints = hints_in hint

-- The kind of functions with their branch hints.
abbrev pub hint_items : Kind Hints Hints
hint_items = hints_in_items hint IsHint hint_encoding

-- The section name `metadata.code.branch_hint`.
abbrev pub hints_name : List ℕ
hints_name = codes "metadata.code.branch_hint"

-- ---- the section of branch hints

-- The pieces encode these functions with their hints.
abbrev pub ContainsHints : List (List ℕ) → List Hints → Type 0
ContainsHints = ContainsItems hint_items

-- The payload of the section: its name, and a vector of functions with their hints.
abbrev pub hints_payload : Format (List Hints)
hints_payload = counted_payload hints_name hints

-- The section that decodes to the branch hints of these functions.
abbrev pub hints_decoding : List Hints → SectionDecoding
hints_decoding functions = decoding_as hints_payload functions

-- ---- decoded hints

-- The view of a function's decoded hints.
abbrev pub hints_view : {A : Type 0} → ℕ × Vec BranchHint A → Hints
hints_view h = (h.0, h.1.items)
