-- This file defines why calls that edit a module fail.
use Rattle.std.specs.Prelude.{◌≡◌, ◌≢◌, ◌⊎◌, ℕ, ◌+◌, ◌<◌, ◌^◌, List, [], ◌∷◌, ◌++◌, length, flat_map, Bool, true, false, cond}
use Rattle.std.specs.List.{AllByRecursion}
use Rattle.wasm_base.specs.Words.{Decodes, Rejects, IsEncodableSection, RejectsWhole, admitted, header, joined, number_of, padded, size_prefixed, standard, u32, unsigned_encoding, vec, wasm_module}
use Rattle.wasm_base.specs.declared.section_id.SectionId.TheVariants as ids
use Rattle.wasm_code.specs.Words.{body}
use Rattle.wasm_base.specs.declared.fault.ReadFault.{ReadFault}
use Rattle.wasm_base.specs.declared.fault.ReadFault.TheVariants as faults
use Rattle.wasm_base.specs.declared.refused.Refused.TheVariants as refusals
use Rattle.wasm_reader.specs.Kinds.{Contents, content}
use Rattle.wasm_reader.specs.Outlines.{HasSections, IsSection, bytes_of}
use Rattle.wasm_reader.specs.Sections.{HasContentIn}
use Rattle.wasm_reader.specs.Shortening.{contains_offsets}
use Rattle.wasm_reader.specs.Words.{Section, section_kind_of}
use Rattle.wasm_reader.specs.declared.read_error.ReadError.{ReadError}
use Rattle.wasm_reader.specs.declared.whole.Offsets.{Offsets}
use Rattle.wasm_reader.specs.declared.whole.Offsets.TheVariants.{Refuse}
use Rattle.wasm_remap.specs.Imported.{room_in, space_of}
use Rattle.wasm_remap.specs.Inserted.{IsJoined}
use Rattle.wasm_remap.specs.Mapping.{IsRejected, Mapping}
use Rattle.wasm_remap.specs.Places.{IsFound}
use Rattle.wasm_remap.specs.Sections.{IsRemapped, RemapsModule, remapped}
use Rattle.wasm_remap.specs.Shifted.{IsTooLarge, shifted}
use Rattle.wasm_remap.specs.declared.indexed.RemapError.{RemapError}
use Rattle.wasm_remap.specs.declared.indexed.RemapError.TheVariants as errors
use Rattle.wasm_remap.specs.declared.insert.Position.{Position}
use Rattle.wasm_remap.specs.declared.insert.Position.TheVariants.{First}
use Rattle.wasm_remap.specs.declared.shift.IndexTooLarge.{IndexTooLarge}
use Rattle.wasm_sections.specs.Imports.{IsEncodableImport, import_encoding, import_item}
use Rattle.wasm_sections.specs.declared.import.Import.{Import}
use Rattle.wasm_remap.specs.declared.spaces.IndexSpace.{IndexSpace}

-- ---- the errors of the reader

-- Whether an allocation failed.
abbrev pub is_memory : ReadFault → Bool
is_memory faults.Memory = true
is_memory fault = false

-- The error for one of the reader. A failed allocation is no error of the bytes.
abbrev pub error_of : {E : Type 0} → ReadError → RemapError E
error_of fault = cond (is_memory fault.cause) (errors.Refused refusals.Memory) (errors.Read fault)

-- ---- sections

-- Why the changed items are not appended: the map rejects an index, or the changed items have no
-- encoding. `Memory` says nothing of the items.
abbrev pub ExplainsItems : {E : Type 0} → (Contents → Contents) → (IndexSpace → ℕ → E → Type 0) → Contents → RemapError E → Type 0
ExplainsItems f rejects x (errors.Read fault) = ⊥
ExplainsItems f rejects x (errors.Refused refused) = refused ≢ refusals.Memory → HasContentIn admitted (f x) → ⊥
ExplainsItems f rejects x (errors.Index e) = IsRejected rejects e
ExplainsItems f rejects x (errors.Offsets offset) = ⊥

-- Why the items of a section are not changed: the section does not decode, the map rejects an index,
-- or the changed items have no encoding.
abbrev pub ExplainsContent : {E : Type 0} → (Contents → Contents) → (IndexSpace → ℕ → E → Type 0) → Section → RemapError E → Type 0
ExplainsContent f rejects s (errors.Read fault) = RejectsWhole (content (section_kind_of s)) standard s.payload
ExplainsContent f rejects s (errors.Refused refused) = refused ≢ refusals.Memory → (x : Contents) × content (section_kind_of s) standard s.payload x × (HasContentIn admitted (f x) → ⊥)
ExplainsContent f rejects s (errors.Index e) = IsRejected rejects e
ExplainsContent f rejects s (errors.Offsets offset) = ⊥

-- Why the indices of a section are not mapped.
abbrev pub ExplainsSection : {E : Type 0} → Mapping → (IndexSpace → ℕ → E → Type 0) → Section → RemapError E → Type 0
ExplainsSection m rejects = ExplainsContent (remapped m) rejects

-- ---- modules

-- The bytes begin with the header and sections, the last of which is this one.
pub record HasSection (bytes : List ℕ) (s : Section) : Type 0 where
  pub before : List Section
  pub after : List ℕ
  pub joined : bytes ≡ header ++ (flat_map bytes_of before ++ (bytes_of s ++ after))
  pub each : AllByRecursion IsSection before
  pub is_section : IsSection s

-- The change of a section of the module fails with this error. The section holds no offsets.
abbrev pub FailsIn : {E : Type 0} → (Section → RemapError E → Type 0) → List ℕ → RemapError E → Type 0
FailsIn Why bytes e = (s : Section) × HasSection bytes s × (contains_offsets s.name ≡ false) × Why s e

-- Why the sections of a module are not changed: the bytes are no module, the change of a section
-- fails, or a section holds offsets.
abbrev pub ExplainsModule : {E : Type 0} → (Section → RemapError E → Type 0) → Offsets → List ℕ → RemapError E → Type 0
ExplainsModule Why offsets bytes (errors.Read fault) = RejectsWhole wasm_module padded bytes ⊎ FailsIn Why bytes (errors.Read fault)
ExplainsModule Why offsets bytes (errors.Refused refused) = refused ≢ refusals.Memory → FailsIn Why bytes (errors.Refused refused)
ExplainsModule Why offsets bytes (errors.Index e) = FailsIn Why bytes (errors.Index e)
ExplainsModule Why offsets bytes (errors.Offsets offset) = (offsets ≡ Refuse) × ((s : Section) × HasSection bytes s × (contains_offsets s.name ≡ true))

-- Why a changed section is not appended: the change fails, or the new payload has 2^32 bytes or more.
abbrev pub ExplainsChange : {E : Type 0} → (Section → List ℕ → Type 0) → (Section → RemapError E → Type 0) → Section → RemapError E → Type 0
ExplainsChange R Why s (errors.Refused refused) = refused ≢ refusals.Memory → Why s (errors.Refused refused) ⊎ ((payload : List ℕ) × R s payload × (length payload < 2 ^ 32 → ⊥))
ExplainsChange R Why s e = Why s e

-- Why the indices of a module are not mapped.
abbrev pub ExplainsRemap : {E : Type 0} → Mapping → (IndexSpace → ℕ → E → Type 0) → Offsets → List ℕ → RemapError E → Type 0
ExplainsRemap m rejects = ExplainsModule (ExplainsChange (IsRemapped m) (ExplainsSection m rejects))

-- The section decodes, and has fewer than 2^26 bytes.
pub record IsReadable (s : Section) : Type 0 where
  pub items : Contents
  pub decoded : content (section_kind_of s) standard s.payload items
  pub short : length s.payload < 2 ^ 26

-- The bytes are a module. Each section that holds no offsets decodes, and has fewer than 2^26 bytes.
-- With `Refuse`, no section holds offsets. A map whose new indices are below 2^32, and that rejects
-- none, then maps the module, if there is memory.
pub record IsMappable (offsets : Offsets) (bytes : List ℕ) : Type 0 where
  pub sections : List Section
  pub has : HasSections bytes sections
  pub readable : AllByRecursion (λ s. contains_offsets s.name ≡ false → IsReadable s) sections
  pub no_offsets : offsets ≡ Refuse → AllByRecursion (λ s. contains_offsets s.name ≡ false) sections

-- ---- inserted sections

-- Why the sections of a module are not listed: the bytes are no module.
abbrev pub ExplainsSections : {E : Type 0} → List ℕ → RemapError E → Type 0
ExplainsSections bytes (errors.Read fault) = RejectsWhole wasm_module padded bytes
ExplainsSections bytes (errors.Refused refused) = refused ≡ refusals.Memory
ExplainsSections bytes (errors.Index e) = ⊥
ExplainsSections bytes (errors.Offsets offset) = ⊥

-- Both payloads begin with a count, and their sum is 2^32 or more.
pub record AreTooMany (new old : List ℕ) : Type 0 where
  pub new_count : ℕ
  pub new_members : List ℕ
  pub new_read : Decodes u32 standard new new_count new_members
  pub old_count : ℕ
  pub old_members : List ℕ
  pub old_read : Decodes u32 standard old old_count old_members
  pub unfit : new_count + old_count < 2 ^ 32 → ⊥

-- Why the members of a new list and an old one are not joined: one of them does not begin with a
-- count, the new section is not encodable, or there are too many members.
abbrev pub ExplainsJoin : {E : Type 0} → (Encodable : Type 0) → (new old : List ℕ) → RemapError E → Type 0
ExplainsJoin Encodable new old (errors.Read fault) = Rejects u32 standard new ⊎ Rejects u32 standard old
ExplainsJoin Encodable new old (errors.Refused refused) = refused ≢ refusals.Memory → (Encodable → ⊥) ⊎ AreTooMany new old
ExplainsJoin Encodable new old (errors.Index e) = ⊥
ExplainsJoin Encodable new old (errors.Offsets offset) = ⊥

-- The joined payload has 2^32 bytes or more.
abbrev pub IsTooLong : Position → (new old : List ℕ) → Type 0
IsTooLong p new old = (payload : List ℕ) × IsJoined p new old payload × (length payload < 2 ^ 32 → ⊥)

-- The first section of this id in the module has this property.
pub record HasFirst (id : ℕ) (bytes : List ℕ) (P : Section → Type 0) : Type 0 where
  pub olds : List Section
  pub has : HasSections bytes olds
  pub before : List Section
  pub section : Section
  pub after : List Section
  pub found : IsFound id before section after olds
  pub property : P section

-- Why a section is not inserted into a module: the bytes are no module, the new section is not
-- encodable, or its members are not joined with those of the old section.
abbrev pub ExplainsInsert : {E : Type 0} → Position → (id : ℕ) → (Encodable : Type 0) → (new bytes : List ℕ) → RemapError E → Type 0
ExplainsInsert p id Encodable new bytes (errors.Read fault) = RejectsWhole wasm_module padded bytes ⊎ HasFirst id bytes (λ s. Rejects u32 standard new ⊎ Rejects u32 standard s.payload)
ExplainsInsert p id Encodable new bytes (errors.Refused refused) = refused ≢ refusals.Memory → (Encodable → ⊥) ⊎ HasFirst id bytes (λ s. AreTooMany new s.payload ⊎ IsTooLong p new s.payload)
ExplainsInsert p id Encodable new bytes (errors.Index e) = ⊥
ExplainsInsert p id Encodable new bytes (errors.Offsets offset) = ⊥

-- ---- changed code

-- Why a body is not changed: it does not decode.
abbrev pub ExplainsBody : {E : Type 0} → List ℕ → RemapError E → Type 0
ExplainsBody bytes (errors.Read fault) = RejectsWhole body standard bytes
ExplainsBody bytes (errors.Refused refused) = Unit {0}
ExplainsBody bytes (errors.Index e) = ⊥
ExplainsBody bytes (errors.Offsets offset) = ⊥

-- Why the bodies of a code section are not changed: its payload does not decode.
abbrev pub ExplainsBodies : {E : Type 0} → List ℕ → RemapError E → Type 0
ExplainsBodies payload (errors.Read fault) = RejectsWhole (vec (size_prefixed body)) standard payload
ExplainsBodies payload (errors.Refused refused) = Unit {0}
ExplainsBodies payload (errors.Index e) = ⊥
ExplainsBodies payload (errors.Offsets offset) = ⊥

-- Why the code of a module is not changed: the bytes are no module, or the payload of the first code
-- section does not decode.
abbrev pub ExplainsCode : {E : Type 0} → List ℕ → RemapError E → Type 0
ExplainsCode bytes (errors.Read fault) = RejectsWhole wasm_module padded bytes ⊎ HasFirst (number_of ids.Code) bytes (λ s. RejectsWhole (vec (size_prefixed body)) standard s.payload)
ExplainsCode bytes (errors.Refused refused) = Unit {0}
ExplainsCode bytes (errors.Index e) = ⊥
ExplainsCode bytes (errors.Offsets offset) = ⊥

-- ---- inserted imports

-- Why an import is not added to a section: it is not encodable.
abbrev pub ExplainsEntry : {E : Type 0} → (Encodable : Type 0) → RemapError E → Type 0
ExplainsEntry Encodable (errors.Refused refused) = refused ≢ refusals.Memory → Encodable → ⊥
ExplainsEntry Encodable e = ⊥

-- The payload of an import section of one import.
abbrev pub import_payload : Import → List ℕ
import_payload x = unsigned_encoding 1 ++ joined (import_encoding (import_item x) ∷ [])

-- Why an import is not inserted: the indices of the module are not moved, the import is not encodable,
-- or its section is not inserted into the module whose indices are moved.
abbrev pub ExplainsImport : Import → Offsets → List ℕ → RemapError IndexTooLarge → Type 0
ExplainsImport x offsets bytes e =
    ExplainsRemap (shifted (room_in (space_of x.ty))) (IsTooLarge (room_in (space_of x.ty))) offsets bytes e
    ⊎ (ExplainsEntry (IsEncodableImport (import_item x)) e
    ⊎ ((shifted_bytes : List ℕ) × RemapsModule (shifted (room_in (space_of x.ty))) offsets bytes shifted_bytes × ExplainsInsert First (number_of ids.Import) (IsEncodableSection (import_encoding (import_item x) ∷ [])) (import_payload x) shifted_bytes e))
