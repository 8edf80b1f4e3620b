-- This file defines the results of callers that iterate over a module.
use Rattle.std.specs.Prelude.{◌≡◌, ℕ, List, ◌++◌}
use Rattle.wasm_base.specs.Words.{admitted, padded, standard, standard_minimal, any_bytes, header, size_prefixed, u32, Decodes}
use Rattle.wasm_base.specs.Minimal.{IsMinimalEncoding}
use Rattle.wasm_reader.specs.Kinds.{grammars_of}
use Rattle.wasm_reader.specs.Sections.{HasShortBodies}
use Rattle.wasm_reader.specs.Words.{Contents, content, kind_in, Section, IsSection, LocatedBody, bytes_of, section_kind_of}

-- The bytes are the header of a module, a section of this payload, and any suffix.
pub record BeginsWithPayload (bytes payload : List ℕ) : Type 0 where
  pub section : Section
  pub rest : List ℕ
  pub is_section : IsSection section
  pub split : bytes ≡ header ++ (bytes_of section ++ rest)
  pub is : payload ≡ section.payload

-- The section decodes to items, and the new bytes are their minimal encoding as a payload.
pub record IsEncodedAgain (s : Section) (new : List ℕ) : Type 0 where
  pub items : Contents
  pub decoded : content (section_kind_of s) standard s.payload items
  pub encoded : IsMinimalEncoding (grammars_of (kind_in items)) (content (kind_in items)) items new

-- The section decodes to items, and the new bytes are their minimal encoding in the standard's
-- grammar, as a payload, but for code of 2^31 bytes or more.
pub record IsShortestPayload (s : Section) (new : List ℕ) : Type 0 where
  pub items : Contents
  pub decoded : content (section_kind_of s) standard s.payload items
  pub encoded : HasShortBodies admitted (section_kind_of s) s.payload → content (kind_in items) standard_minimal new items

-- The payload is a number, this body with its size prefix, and any suffix.
pub record IsFirstBody (s : Section) (body : LocatedBody) : Type 0 where
  pub count : ℕ
  pub rest : List ℕ
  pub after : List ℕ
  pub counted : Decodes u32 padded s.payload count rest
  pub decodes : Decodes (size_prefixed any_bytes) padded rest body.bytes after
