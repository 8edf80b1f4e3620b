-- This file defines modules as `outline` visits them: each section with any payload, whether that
-- decodes by its kind or not.
use Rattle.std.specs.Prelude.{◌≡◌, ◌≢◌, ◌⊎◌, ℕ, zero, suc, ◌+◌, ◌<◌, ◌≤◌, List, [], ◌∷◌, ◌++◌, length, Option, Some, None, option_map}
use Rattle.std.specs.List.{AllByRecursion, flat_map}
use Rattle.wasm_base.specs.Words.{padded, standard, any_bytes, any_section, fixed, size_prefixed, header, name, wasm_module, Decodes, Rejects, number_of}
use Rattle.wasm_base.specs.declared.fault.ReadFault.{ReadFault}
use Rattle.wasm_base.specs.declared.fault.ReadFault.TheVariants.{Ended, UnknownTag, Memory}
use Rattle.wasm_reader.specs.Kinds.{kind_among, known_kinds, kind_named, number_in, Contents, content}
use Rattle.wasm_reader.specs.declared.outlines.Outlined.{Outlined}
use Rattle.wasm_reader.specs.declared.kinds.SectionKind.{SectionKind}
use Rattle.wasm_reader.specs.declared.standing.Standing.{Standing}
use Rattle.wasm_base.specs.declared.section_id.SectionId.TheVariants as ids
use Rattle.wasm_reader.specs.declared.kinds.SectionKind.TheVariants as kinds

-- ---- sections with any payload

-- A section of a module: its id, its size-prefixed payload, the payload, and its name if it is a
-- custom section that has one.
pub record Section : Type 0 where
  pub id : ℕ
  pub sized : List ℕ
  pub payload : List ℕ
  pub name : Option (List ℕ)

-- The view of a section, without its location in memory.
abbrev pub section_of : Standing → Section
section_of s = record { id = s.id; sized = s.sized.now; payload = s.payload.now; name = option_map (λ n. n.now) s.name }

-- The bytes of a section.
abbrev pub bytes_of : Section → List ℕ
bytes_of s = s.id ∷ s.sized

-- The name of a section: that at the front of a custom section's payload. There is none if no name
-- decodes there, or if the id is not 0.
abbrev pub IsNameOf : ℕ → List ℕ → Option (List ℕ) → Type 0
IsNameOf id payload (Some n) = (id ≡ number_of ids.Custom) × (rest : List ℕ) × Decodes name padded payload n rest
IsNameOf id payload None = id ≡ number_of ids.Custom → Rejects name padded payload

-- The data of a section of this name: the bytes of the payload after the name, or all of them if
-- there is no name.
abbrev pub IsDataOf : Option (List ℕ) → List ℕ → List ℕ → Type 0
IsDataOf (Some n) payload content = Decodes name padded payload n content
IsDataOf None payload content = content ≡ payload

-- The bytes after the id are this payload with its size prefix, and the payload has this name.
pub record IsSection (s : Section) : Type 0 where
  pub contains : size_prefixed any_bytes padded s.sized s.payload
  pub named : IsNameOf s.id s.payload s.name

-- The bytes are the header and these sections.
pub record HasSections (bytes : List ℕ) (sections : List Section) : Type 0 where
  pub joined : bytes ≡ header ++ flat_map bytes_of sections
  pub each : AllByRecursion IsSection sections

-- ---- kinds

-- The kind of a section of this id and this name. A type section is of the kind `Types` here.
abbrev pub kind_at : ℕ → Option (List ℕ) → SectionKind
kind_at id (Some n) = kind_named n
kind_at id None = kind_among ((number_of ids.Types, kinds.Types) ∷ known_kinds) id

-- The kind of a section.
abbrev pub section_kind_of : Section → SectionKind
section_kind_of s = kind_at s.id s.name

-- ---- outlines

-- The payload decodes to this number of items of the kind. There is no number if it does not
-- decode, or if its items are not counted.
abbrev pub IsCount : SectionKind → List ℕ → Option ℕ → Type 0
IsCount kind payload (Some n) = (x : Contents) × content kind standard payload x × (number_in x ≡ Some n)
IsCount kind payload None = (x : Contents) → content kind standard payload x → number_in x ≡ None

-- The line describes a section whose id is at this offset.
pub record IsOutline (section_start : ℕ) (s : Section) (line : Outlined) : Type 0 where
  pub id : line.id ≡ s.id
  pub offset : line.offset + length s.payload ≡ section_start + length (bytes_of s)
  pub size : line.size ≡ length s.payload
  pub items : IsCount (section_kind_of s) s.payload line.items
  pub name : option_map (λ n. n.now) line.name ≡ s.name

-- The lines describe the sections, the first of which begins at this offset.
abbrev pub AreOutlines : ℕ → List Section → List Outlined → Type 0
AreOutlines section_start [] [] = Unit {0}
AreOutlines section_start (s ∷ ss) (l ∷ ls) = IsOutline section_start s l × AreOutlines (section_start + length (bytes_of s)) ss ls
AreOutlines section_start [] (l ∷ ls) = ⊥
AreOutlines section_start (s ∷ ss) [] = ⊥

-- The bytes are a module of sections that the lines describe.
pub record HasOutline (bytes : List ℕ) (lines : List Outlined) : Type 0 where
  pub sections : List Section
  pub has : HasSections bytes sections
  pub are_outlines : AreOutlines (length header) sections lines

-- ---- bytes that are not a module

-- The bytes begin with the header and this many sections with any payload. Bytes remain, and no
-- such section decodes from their front.
pub record EndsBehind (bytes : List ℕ) (number : ℕ) : Type 0 where
  pub sections : List (ℕ × List ℕ)
  pub rest : List ℕ
  pub read : Decodes wasm_module padded bytes sections rest
  pub counted : length sections ≡ number
  pub more : rest ≢ []
  pub none : Rejects any_section padded rest

-- Number 0: the bytes do not begin with the header. Other numbers, counted from 1: the section of
-- this number is the first that is malformed, whatever its payload.
abbrev pub EndsAt : List ℕ → ℕ → Type 0
EndsAt bytes zero = Rejects (fixed header (tt {0})) padded bytes
EndsAt bytes (suc number) = EndsBehind bytes number

-- The cause of the error of bytes that do not begin with the header: they end before it does, or
-- one of its bytes differs.
abbrev pub IsHeaderCause : List ℕ → ReadFault → Type 0
IsHeaderCause bytes fault = ((fault ≡ Ended) × (length bytes < length header)) ⊎ ((fault ≡ UnknownTag) × (length header ≤ length bytes))

-- An error at section number 0 has the cause of bytes that do not begin with the header, unless an
-- allocation failed.
abbrev pub ExplainsHeader : List ℕ → ℕ → ReadFault → Type 0
ExplainsHeader bytes number fault = number ≡ 0 → fault ≢ Memory → IsHeaderCause bytes fault
