-- This file defines the iterators over the sections of a module, and over the bodies of a code
-- section.
use Rattle.std.specs.Prelude.{◌≡◌, ◌≢◌, ℕ, suc, ◌+◌, ◌<◌, ◌≤◌, List, [], ◌++◌, length, take, drop, nat_lt, if◌then◌else◌, Option, Some, None, Result, Ok, Err}
use Rattle.wasm_base.specs.Words.{padded, any_bytes, any_section, header, size_prefixed, Decodes, Rejects}
use Rattle.wasm_base.specs.declared.fault.ReadFault.TheVariants.{Ended, UnknownTag, Memory}
use Rattle.wasm_reader.specs.Outlines.{Section, IsSection, IsHeaderCause, bytes_of, section_kind_of}
use Rattle.wasm_reader.specs.declared.kinds.SectionKind.{SectionKind}
use Rattle.wasm_reader.specs.declared.read_error.ReadError.{ReadError}

-- ---- sections

-- The state of the iterator over sections: the bytes of the module, and the offset of the next
-- section in them.
pub record Iterating : Type 0 where
  pub bytes : List ℕ
  pub offset : ℕ

-- The bytes from the next section on.
abbrev pub ahead : Iterating → List ℕ
ahead it = drop it.offset it.bytes

-- This is the offset of the first byte that differs from the header's.
pub record IsFirstWrong (bytes : List ℕ) (offset : ℕ) : Type 0 where
  pub inside : offset < length header
  pub same : take offset bytes ≡ take offset header
  pub wrong : take (suc offset) bytes ≢ take (suc offset) header

-- The error of bytes that do not begin with the header: at their end if they end before it does,
-- and otherwise at the first byte that differs.
pub record IsHeaderError (bytes : List ℕ) (e : ReadError) : Type 0 where
  pub cause : IsHeaderCause bytes e.cause
  pub ended : e.cause ≡ Ended → e.offset ≡ length bytes
  pub wrong : e.cause ≡ UnknownTag → IsFirstWrong bytes e.offset

-- A section, and the offset of its id in the module.
pub record Located : Type 0 where
  pub offset : ℕ
  pub section : Section

-- The offset of the first byte after the section.
abbrev pub end_of : Located → ℕ
end_of s = s.offset + length (bytes_of s.section)

-- The kind of a section whose id the standard has, and none of other ids.
abbrev pub known_kind_of : Section → Option SectionKind
known_kind_of s = if nat_lt s.id 14 then Some (section_kind_of s) else None

-- The offset is that of a byte of the section's payload, or of its end.
abbrev pub IsInPayload : Located → ℕ → Type 0
IsInPayload s offset = (end_of s ≤ offset + length s.section.payload) × (offset ≤ end_of s)

-- The iterator returned this section: the next bytes are the section's, and the iterator's offset
-- moves to their end.
pub record GivesSection (old : Iterating) (s : Located) (new : Iterating) : Type 0 where
  pub is_section : IsSection s.section
  pub offset : s.offset ≡ old.offset
  pub split : ahead old ≡ bytes_of s.section ++ ahead new
  pub after : new.offset ≡ end_of s
  pub bytes : new.bytes ≡ old.bytes

-- The iterator returned this error, and has ended. No section decodes from the next bytes. The cause
-- is not `Memory`.
pub record GivesError (old : Iterating) (e : ReadError) (new : Iterating) : Type 0 where
  pub none : e.cause ≢ Memory → Rejects any_section padded (ahead old)
  pub no_memory : e.cause ≢ Memory
  pub more : ahead old ≢ []
  pub from : old.offset ≤ e.offset
  pub within : e.offset ≤ length old.bytes
  pub ended : ahead new ≡ []
  pub stays : new.offset ≡ old.offset

-- The result of `next`: `None` at the end of the module, a section, or an error.
abbrev pub NextSection : Iterating → Option (Result Located ReadError) → Iterating → Type 0
NextSection old None new = (ahead old ≡ []) × (new ≡ old)
NextSection old (Some (Ok s)) new = GivesSection old s new
NextSection old (Some (Err e)) new = GivesError old e new

-- ---- bodies

-- The state of the iterator over bodies: how many bodies are left, the bytes from the next one on,
-- and the offset of their end in the module.
pub record Visiting : Type 0 where
  pub left : ℕ
  pub rest : List ℕ
  pub end : ℕ

-- A body, and the offset of its first byte in the module. It begins with its locals, after its
-- size prefix.
pub record LocatedBody : Type 0 where
  pub offset : ℕ
  pub bytes : List ℕ

-- The iterator returned this body, which was the next size-prefixed one.
pub record GivesBody (old : Visiting) (b : LocatedBody) (new : Visiting) : Type 0 where
  pub left : old.left ≡ suc new.left
  pub decodes : Decodes (size_prefixed any_bytes) padded old.rest b.bytes new.rest
  pub offset : b.offset + (length b.bytes + length new.rest) ≡ old.end
  pub end : new.end ≡ old.end

-- The iterator returned this error, and has ended. If bodies are left, no size-prefixed body
-- decodes from the next bytes. If none is left, bytes remain. The cause is not `Memory`.
pub record EndsBodies (old : Visiting) (e : ReadError) (new : Visiting) : Type 0 where
  pub none : e.cause ≢ Memory → old.left ≢ 0 → Rejects (size_prefixed any_bytes) padded old.rest
  pub no_memory : e.cause ≢ Memory
  pub more : old.left ≡ 0 → old.rest ≢ []
  pub from : old.end ≤ e.offset + length old.rest
  pub within : e.offset ≤ old.end
  pub ended : (new.left ≡ 0) × (new.rest ≡ [])

-- The result of `next`: `None` at the end of the section, a body, or an error.
abbrev pub NextBody : Visiting → Option (Result LocatedBody ReadError) → Visiting → Type 0
NextBody old None new = (old.left ≡ 0) × (old.rest ≡ []) × (new ≡ old)
NextBody old (Some (Ok b)) new = GivesBody old b new
NextBody old (Some (Err e)) new = EndsBodies old e new
