-- This file defines memory types, their encoding and their format. Core specification, Binary
-- Format, Types, Memory Types, and Modules, Memory Section.
use Rattle.std.specs.Prelude.{ℕ, ◌^◌, ◌<◌, List, ◌∷◌, ◌++◌, Option, Some, None, IfSome}
use Rattle.wasm_base.specs.Words.{Kind, ContainsItems, Format, u32, u64, mapped, tagged, pair, optional, is_given, vec, unsigned_encoding, optional_encoding, SectionDecoding, decoding_of, number_of}
use Rattle.wasm_sections.specs.Flags.{Flags, flags, flags_code}
use Rattle.wasm_sections.specs.declared.memory.MemoryType.{MemoryType}
use Rattle.wasm_base.specs.declared.section_id.SectionId.TheVariants as ids

-- The flags of a memory type.
abbrev pub memory_flags : MemoryType → Flags
memory_flags m = record { has_maximum = is_given m.maximum; shared = m.shared; is_64 = m.memory64; has_page_size = is_given m.page_size_log2 }

-- The encoding of a memory type: flags, the minimum, and the maximum and the exponent of the page
-- size if they are given.
abbrev pub memory_encoding : MemoryType → List ℕ
memory_encoding m = flags_code (memory_flags m) ∷ (unsigned_encoding m.minimum ++ (optional_encoding unsigned_encoding m.maximum ++ optional_encoding unsigned_encoding m.page_size_log2))

-- The memory type is well-formed: its numbers are in range.
pub record IsMemory (m : MemoryType) : Type 0 where
  pub minimum : m.minimum < 2 ^ 64
  pub maximum : IfSome m.maximum (λ n. n < 2 ^ 64)
  pub page_size : IfSome m.page_size_log2 (λ n. n < 2 ^ 32)

-- The memory type of these flags, a minimum, an optional maximum and an optional exponent of the
-- page size.
abbrev pub memory_of : Flags → ℕ × (Option ℕ × Option ℕ) → MemoryType
memory_of f parts = record { minimum = parts.0; maximum = parts.1.0; memory64 = f.is_64; shared = f.shared; page_size_log2 = parts.1.1 }

-- The bytes after these flags: the minimum, and the maximum and the exponent of the page size if
-- the flags say so.
abbrev pub after_memory_flags : Flags → Format MemoryType
after_memory_flags f = mapped (memory_of f) (pair u64 (pair (optional f.has_maximum u64) (optional f.has_page_size u32)))

-- A memory type: flags, the minimum, and the maximum and the exponent of the page size if the flags
-- say so.
abbrev pub memory_type : Format MemoryType
memory_type = tagged flags after_memory_flags

-- The kind of memory types.
abbrev pub memory_items : Kind MemoryType MemoryType
memory_items = record { encoding = memory_encoding; IsWellFormed = IsMemory; IsWellFormedPadded = IsMemory; normal_form = λ memory. memory; format = memory_type }

-- The exponent of 2 of the page size: 16 by default.
abbrev pub page_exponent : Option ℕ → ℕ
page_exponent None = 16
page_exponent (Some n) = n

-- The pieces encode these memory types.
abbrev pub ContainsMemories : List (List ℕ) → List MemoryType → Type 0
ContainsMemories = ContainsItems memory_items

-- The memory section that decodes to these memory types.
abbrev pub memory_decoding : List MemoryType → SectionDecoding
memory_decoding memories = decoding_of (number_of ids.Memory) (vec memory_type) memories
