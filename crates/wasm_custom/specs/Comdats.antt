-- This file defines the COMDAT groups of a linking section, their encoding and their format. Tool
-- conventions, Linking, Linking Metadata Section, `WASM_COMDAT_INFO`.
use Rattle.std.specs.Prelude.{ℕ, ◌^◌, ◌<◌, List, ◌∷◌, ◌++◌}
use Rattle.wasm_base.specs.Words.{Format, u32, byte, name, mapped, pair, vec, IsEncodableName, unsigned_encoding, size_prefixed_encoding, vec_encoding, IsEncodableVec}
use Rattle.wasm_custom.specs.Lists.{IsListOf}
use Rattle.wasm_custom.specs.declared.comdats.ComdatSymbol.{ComdatSymbol}
use Rattle.wasm_custom.specs.declared.comdats.Comdat as read

-- The encoding of a member of a group: the byte of its kind, and its index.
abbrev pub comdat_symbol_encoding : ComdatSymbol → List ℕ
comdat_symbol_encoding s = s.kind ∷ unsigned_encoding s.index

-- The index of the member is in range.
abbrev pub IsComdatSymbol : ComdatSymbol → Type 0
IsComdatSymbol s = s.index < 2 ^ 32

-- The member of this kind and this index.
abbrev pub comdat_symbol_of : ℕ × ℕ → ComdatSymbol
comdat_symbol_of parts = record { kind = parts.0; index = parts.1 }

-- A member of a group: a byte for its kind, and an index.
abbrev pub comdat_symbol : Format ComdatSymbol
comdat_symbol = mapped comdat_symbol_of (pair byte u32)

-- The pieces are the encodings of these members.
abbrev pub AreComdatSymbols : List (List ℕ) → List ComdatSymbol → Type 0
AreComdatSymbols = IsListOf comdat_symbol_encoding IsComdatSymbol

-- A group: its name, its flags, and its members.
pub record Comdat : Type 0 where
  pub name : List ℕ
  pub flags : ℕ
  pub symbols : List ComdatSymbol

-- The encoding of a group: its name, its flags, and the vector of its members.
abbrev pub comdat_encoding : Comdat → List ℕ
comdat_encoding c = size_prefixed_encoding c.name ++ (unsigned_encoding c.flags ++ vec_encoding comdat_symbol_encoding c.symbols)

-- The group is well-formed: its name is UTF-8 of at most 2^32 - 1 bytes, its flags are in range,
-- and its members are well-formed and their number is at most 2^32 - 1.
pub record IsComdat (c : Comdat) : Type 0 where
  pub name : IsEncodableName c.name
  pub flags : c.flags < 2 ^ 32
  pub symbols : IsEncodableVec IsComdatSymbol c.symbols

-- The group of this name, these flags and these members.
abbrev pub comdat_of : List ℕ × (ℕ × List ComdatSymbol) → Comdat
comdat_of parts = record { name = parts.0; flags = parts.1.0; symbols = parts.1.1 }

-- A group: a name, flags, and a vector of members.
abbrev pub comdat : Format Comdat
comdat = mapped comdat_of (pair name (pair u32 (vec comdat_symbol)))

-- The pieces are the encodings of these groups.
abbrev pub AreComdats : List (List ℕ) → List Comdat → Type 0
AreComdats = IsListOf comdat_encoding IsComdat

-- The view of a decoded group.
abbrev pub comdat_view : {A : Type 0} → read.Comdat A → Comdat
comdat_view c = record { name = c.name.now; flags = c.flags; symbols = c.symbols.items }
