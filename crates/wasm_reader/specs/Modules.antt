-- This file defines modules as `list_module` decodes them: each section by the kind of its id.
use Rattle.std.specs.Prelude.{◌≡◌, ◌≢◌, ℕ, zero, suc, List, [], length, map}
use Rattle.wasm_base.specs.Words.{Mode, padded, Format, byte, any_bytes, fixed, size_prefixed, header, members, prefixed, Then, Decodes, Rejects}
use Rattle.wasm_reader.specs.Kinds.{Contents, content, kind_of_id, number_in}
use Rattle.wasm_reader.specs.declared.modules.Listed.{Listed}
use Rattle.wasm_reader.specs.declared.kinds.SectionKind.{SectionKind}

-- ---- sections

-- Size-prefixed bytes of this size, which encode the content of a section of this kind.
pub record Sized (kind : SectionKind) (mode : Mode) (s : List ℕ) (p : ℕ × Contents) : Type 0 where
  pub payload : List ℕ
  pub sized : size_prefixed any_bytes mode s payload
  pub size : length payload ≡ p.0
  pub contains : content kind mode payload p.1

-- A section: its id, and the size and content of its payload, by the kind of the id.
abbrev pub sized_section : Format (ℕ × (ℕ × Contents))
sized_section = Then byte (λ id. Sized (kind_of_id id))

-- A module: the header, then sections up to the last byte.
abbrev pub sized_module : Format (List (ℕ × (ℕ × Contents)))
sized_module = prefixed header (members sized_section)

-- The line of a section in a list.
abbrev pub line_of : ℕ × (ℕ × Contents) → Listed
line_of s = record { id = s.0; size = s.1.0; items = number_in s.1.1 }

-- ---- lists

-- The bytes are a module whose sections have these lines.
pub record HasLines (bytes : List ℕ) (lines : List Listed) : Type 0 where
  pub sections : List (ℕ × (ℕ × Contents))
  pub read : sized_module padded bytes sections
  pub same : lines ≡ map line_of sections

-- The bytes begin with the header and this many sections. Bytes remain, and no section decodes from
-- their front.
pub record StopsBehind (bytes : List ℕ) (number : ℕ) : Type 0 where
  pub sections : List (ℕ × (ℕ × Contents))
  pub rest : List ℕ
  pub read : Decodes sized_module padded bytes sections rest
  pub counted : length sections ≡ number
  pub more : rest ≢ []
  pub none : Rejects sized_section padded rest

-- Number 0: the bytes do not begin with the header. Other numbers, counted from 1: the section of
-- this number is the first that does not decode.
abbrev pub StopsAt : List ℕ → ℕ → Type 0
StopsAt bytes zero = Rejects (fixed header (tt {0})) padded bytes
StopsAt bytes (suc number) = StopsBehind bytes number

-- A list of a module is unambiguous: the bytes have one list of lines, or stop at one section, and
-- never both.
pub record HaveOneListing : Type 0 where
  pub lines : (bytes : List ℕ) (a b : List Listed) → HasLines bytes a → HasLines bytes b → a ≡ b
  pub either : (bytes : List ℕ) (a : List Listed) (position : ℕ) → HasLines bytes a → StopsAt bytes position → ⊥
  pub position : (bytes : List ℕ) (p q : ℕ) → StopsAt bytes p → StopsAt bytes q → p ≡ q
