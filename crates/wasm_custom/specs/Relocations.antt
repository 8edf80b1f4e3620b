-- This file defines relocations, their encoding and their format. Tool conventions, Linking,
-- Relocation Sections.
use Rattle.std.specs.Prelude.{◌≡◌, ℕ, ◌^◌, ◌<◌, List, ◌∷◌, ◌++◌, ℤ, IsUtf8, true, codes}
use Rattle.wasm_base.specs.Words.{Kind, ContainsItems, Format, u32, s32, s64, name, such, coded, mapped, pair, tagged, vec, IsSigned32InRange, IsSigned64InRange, unsigned_encoding}
use Rattle.wasm_base.specs.Words.{signed_encoding, SectionDecoding}
use Rattle.wasm_custom.specs.Customs.{begins_with, decoding_as}
use Rattle.wasm_custom.specs.declared.relocations.PlainRelocation.{PlainRelocation}
use Rattle.wasm_custom.specs.declared.relocations.Addend32Relocation.{Addend32Relocation}
use Rattle.wasm_custom.specs.declared.relocations.Addend64Relocation.{Addend64Relocation}
use Rattle.wasm_custom.specs.declared.relocations.RelocationKind.{RelocationKind}
use Rattle.wasm_custom.specs.declared.relocations.Relocation.{Relocation}
use Rattle.wasm_custom.specs.declared.relocations.PlainRelocation.TheVariants.{FunctionIndexLeb, TableIndexSleb, TableIndexI32, TypeIndexLeb, GlobalIndexLeb, TagIndexLeb, TableIndexRelSleb}
use Rattle.wasm_custom.specs.declared.relocations.PlainRelocation.TheVariants.{GlobalIndexI32, TableIndexSleb64, TableIndexI64, TableNumberLeb, TableIndexRelSleb64, FunctionIndexI32}
use Rattle.wasm_custom.specs.declared.relocations.Addend32Relocation.TheVariants.{MemoryAddrLeb, MemoryAddrSleb, MemoryAddrI32, FunctionOffsetI32, SectionOffsetI32, MemoryAddrRelSleb}
use Rattle.wasm_custom.specs.declared.relocations.Addend32Relocation.TheVariants.{MemoryAddrTlsSleb, MemoryAddrLocrelI32}
use Rattle.wasm_custom.specs.declared.relocations.Addend64Relocation.TheVariants.{MemoryAddrLeb64, MemoryAddrSleb64, MemoryAddrI64, MemoryAddrRelSleb64, FunctionOffsetI64, MemoryAddrTlsSleb64}
use Rattle.wasm_custom.specs.declared.relocations.Relocation.TheVariants.{Plain, Addend32, Addend64}
use Rattle.wasm_custom.specs.declared.relocations.RelocationKind.TheVariants as kinds

-- ---- kinds

-- The byte of a kind without an addend.
abbrev pub plain_code : PlainRelocation → ℕ
plain_code FunctionIndexLeb = 0
plain_code TableIndexSleb = 1
plain_code TableIndexI32 = 2
plain_code TypeIndexLeb = 6
plain_code GlobalIndexLeb = 7
plain_code TagIndexLeb = 10
plain_code TableIndexRelSleb = 12
plain_code GlobalIndexI32 = 13
plain_code TableIndexSleb64 = 18
plain_code TableIndexI64 = 19
plain_code TableNumberLeb = 20
plain_code TableIndexRelSleb64 = 24
plain_code FunctionIndexI32 = 26

-- The byte of a kind with an addend of 32 bits.
abbrev pub addend32_code : Addend32Relocation → ℕ
addend32_code MemoryAddrLeb = 3
addend32_code MemoryAddrSleb = 4
addend32_code MemoryAddrI32 = 5
addend32_code FunctionOffsetI32 = 8
addend32_code SectionOffsetI32 = 9
addend32_code MemoryAddrRelSleb = 11
addend32_code MemoryAddrTlsSleb = 21
addend32_code MemoryAddrLocrelI32 = 23

-- The byte of a kind with an addend of 64 bits.
abbrev pub addend64_code : Addend64Relocation → ℕ
addend64_code MemoryAddrLeb64 = 14
addend64_code MemoryAddrSleb64 = 15
addend64_code MemoryAddrI64 = 16
addend64_code MemoryAddrRelSleb64 = 17
addend64_code FunctionOffsetI64 = 22
addend64_code MemoryAddrTlsSleb64 = 25

-- The byte of a kind.
abbrev pub relocation_code : RelocationKind → ℕ
relocation_code (kinds.Plain k) = plain_code k
relocation_code (kinds.Addend32 k) = addend32_code k
relocation_code (kinds.Addend64 k) = addend64_code k

-- The kind of a relocation.
abbrev pub kind_of_relocation : Relocation → RelocationKind
kind_of_relocation (Plain k offset index) = kinds.Plain k
kind_of_relocation (Addend32 k offset index addend) = kinds.Addend32 k
kind_of_relocation (Addend64 k offset index addend) = kinds.Addend64 k

-- ---- relocations

-- The encoding of a relocation: the byte of its kind, its offset, its index, and its addend if the
-- kind has one.
abbrev pub relocation_encoding : Relocation → List ℕ
relocation_encoding (Plain k offset index) = plain_code k ∷ (unsigned_encoding offset ++ unsigned_encoding index)
relocation_encoding (Addend32 k offset index addend) = addend32_code k ∷ ((unsigned_encoding offset ++ unsigned_encoding index) ++ signed_encoding addend)
relocation_encoding (Addend64 k offset index addend) = addend64_code k ∷ ((unsigned_encoding offset ++ unsigned_encoding index) ++ signed_encoding addend)

-- The relocation is well-formed: its numbers are in range.
abbrev pub IsRelocation : Relocation → Type 0
IsRelocation (Plain k offset index) = (offset < 2 ^ 32) × (index < 2 ^ 32)
IsRelocation (Addend32 k offset index addend) = (offset < 2 ^ 32) × (index < 2 ^ 32) × IsSigned32InRange addend
IsRelocation (Addend64 k offset index addend) = (offset < 2 ^ 32) × (index < 2 ^ 32) × IsSigned64InRange addend

-- The relocation of this kind, with this offset and index.
abbrev pub plain_of : PlainRelocation → ℕ × ℕ → Relocation
plain_of k p = Plain k p.0 p.1

-- The relocation of this kind, with this offset, index and addend of 32 bits.
abbrev pub addend32_of : Addend32Relocation → (ℕ × ℕ) × ℤ → Relocation
addend32_of k p = Addend32 k p.0.0 p.0.1 p.1

-- The relocation of this kind, with this offset, index and addend of 64 bits.
abbrev pub addend64_of : Addend64Relocation → (ℕ × ℕ) × ℤ → Relocation
addend64_of k p = Addend64 k p.0.0 p.0.1 p.1

-- The format of a relocation after the byte of its kind: an offset, an index, and an addend if the
-- kind has one.
abbrev pub after_kind : RelocationKind → Format Relocation
after_kind (kinds.Plain k) = mapped (plain_of k) (pair u32 u32)
after_kind (kinds.Addend32 k) = mapped (addend32_of k) (pair (pair u32 u32) s32)
after_kind (kinds.Addend64 k) = mapped (addend64_of k) (pair (pair u32 u32) s64)

-- A relocation: the byte of its kind, then its fields.
abbrev pub relocation : Format Relocation
relocation = tagged (coded relocation_code) after_kind

-- The kind of relocations.
abbrev pub relocation_items : Kind Relocation Relocation
relocation_items = record { encoding = relocation_encoding; IsWellFormed = IsRelocation; IsWellFormedPadded = IsRelocation; normal_form = λ relocation. relocation; format = relocation }

-- ---- the section

-- The bytes that each name of a relocation section begins with.
abbrev pub relocations_prefix : List ℕ
relocations_prefix = codes "reloc."

-- The name of the relocation section for a section of this name.
abbrev pub relocations_name : List ℕ → List ℕ
relocations_name section_name = relocations_prefix ++ section_name

-- The name begins with `reloc.`.
abbrev pub IsRelocationsName : List ℕ → Type 0
IsRelocationsName n = begins_with relocations_prefix n ≡ true

-- The name of the section, the index of the section that is relocated, and the relocations.
abbrev pub Relocations : Type 0
Relocations = List ℕ × (ℕ × List Relocation)

-- The payload of a relocation section: a name that begins with `reloc.`, the index of the section
-- that is relocated, and a vector of relocations.
abbrev pub relocations_payload : Format Relocations
relocations_payload = pair (such IsRelocationsName name) (pair u32 (vec relocation))

-- The section that decodes to these relocations.
abbrev pub relocations_decoding : Relocations → SectionDecoding
relocations_decoding said = decoding_as relocations_payload said

-- The pieces encode these relocations.
abbrev pub ContainsRelocations : List (List ℕ) → List Relocation → Type 0
ContainsRelocations = ContainsItems relocation_items

-- The name is that of the section, which is UTF-8 and begins with `reloc.`; the front is the
-- encoding of the section index, which is below 2^32; and the pieces encode the relocations.
pub record SaysRelocations (n front : List ℕ) (pieces : List (List ℕ)) (said : Relocations) : Type 0 where
  pub named : n ≡ said.0
  pub utf8 : IsUtf8 said.0
  pub begins : IsRelocationsName said.0
  pub section : front ≡ unsigned_encoding said.1.0
  pub range : said.1.0 < 2 ^ 32
  pub contains : ContainsRelocations pieces said.1.1
