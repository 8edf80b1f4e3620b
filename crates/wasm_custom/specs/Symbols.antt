-- This file defines the symbols of a linking section, their encoding and their format. Tool
-- conventions, Linking, Linking Metadata Section.
use Rattle.std.specs.Prelude.{◌≡◌, ℕ, ◌^◌, ◌<◌, List, [], ◌∷◌, ◌++◌, Bool, false, not, cond, Option, IfSome, option_map}
use Rattle.wasm_base.specs.Words.{Format, u32, byte, name, impossible, mapped, pair, tagged, choice, optional, is_given, by_mode, IsEncodableName, unsigned_encoding, size_prefixed_encoding}
use Rattle.wasm_base.specs.Words.{optional_encoding}
use Rattle.wasm_custom.specs.Lists.{IsListOf}
use Rattle.wasm_immediates.specs.Words.{bit}
use Rattle.wasm_custom.specs.declared.symbols.DataSymbolDefinition.{DataSymbolDefinition}
use Rattle.wasm_custom.specs.declared.symbols.SymbolKind.{SymbolKind}
use Rattle.wasm_custom.specs.declared.symbols.SymbolKind.TheVariants.{Function, Global, Tag, Table}
use Rattle.wasm_custom.specs.declared.symbols.Symbol as read
use Rattle.wasm_custom.specs.declared.symbols.Symbol.TheVariants as items

-- The byte for the kind of a symbol with an index.
abbrev pub kind_code : SymbolKind → ℕ
kind_code Function = 0x00
kind_code Global = 0x02
kind_code Tag = 0x04
kind_code Table = 0x05

-- A symbol: a kind, flags, an index and an optional name; for data, flags, a name and an optional
-- definition; for a section, flags and its index.
pub data Symbol : Type 0 where
  indexed : SymbolKind → ℕ → ℕ → Option (List ℕ) → Symbol
  of_data : ℕ → List ℕ → Option DataSymbolDefinition → Symbol
  of_section : ℕ → ℕ → Symbol

-- Whether a symbol with an index has a name: bit 4 (undefined) of its flags is clear, or bit 6
-- (explicit name) is set.
abbrev pub has_name : ℕ → Bool
has_name flags = not (cond (bit 4 flags) (not (bit 6 flags)) false)

-- Whether a data symbol has a definition: bit 4 (undefined) of its flags is clear.
abbrev pub has_definition : ℕ → Bool
has_definition flags = not (bit 4 flags)

-- The encoding of a data definition: the index of a data segment, an offset in it, and a size.
abbrev pub definition_encoding : DataSymbolDefinition → List ℕ
definition_encoding d = unsigned_encoding d.index ++ (unsigned_encoding d.offset ++ unsigned_encoding d.size)

-- The encoding of a symbol with an index: its kind, flags and index, and the bytes of its name, if
-- any.
abbrev pub indexed_encoding : SymbolKind → ℕ → ℕ → List ℕ → List ℕ
indexed_encoding kind flags index named = kind_code kind ∷ (unsigned_encoding flags ++ (unsigned_encoding index ++ named))

-- The encoding of a data symbol: 01, its flags, its name, and the bytes of its definition, if any.
abbrev pub of_data_encoding : ℕ → List ℕ → List ℕ → List ℕ
of_data_encoding flags n defined = 0x01 ∷ (unsigned_encoding flags ++ (size_prefixed_encoding n ++ defined))

-- The encoding of a section symbol: 03, its flags, and the index of the section.
abbrev pub of_section_encoding : ℕ → ℕ → List ℕ
of_section_encoding flags index = 0x03 ∷ (unsigned_encoding flags ++ unsigned_encoding index)

-- The encoding of a symbol, with its name or definition if it has one.
abbrev pub symbol_encoding : Symbol → List ℕ
symbol_encoding (indexed kind flags index n) = indexed_encoding kind flags index (optional_encoding size_prefixed_encoding n)
symbol_encoding (of_data flags n d) = of_data_encoding flags n (optional_encoding definition_encoding d)
symbol_encoding (of_section flags index) = of_section_encoding flags index

-- The numbers of the definition are below 2^32.
pub record IsDefinition (d : DataSymbolDefinition) : Type 0 where
  pub index : d.index < 2 ^ 32
  pub offset : d.offset < 2 ^ 32
  pub size : d.size < 2 ^ 32

-- The numbers are in range, and a name is UTF-8 of at most 2^32 - 1 bytes.
abbrev pub IsFullSymbol : Symbol → Type 0
IsFullSymbol (indexed kind flags index n) = (flags < 2 ^ 32) × (index < 2 ^ 32) × IfSome n IsEncodableName
IsFullSymbol (of_data flags n d) = (flags < 2 ^ 32) × IsEncodableName n × IfSome d IsDefinition
IsFullSymbol (of_section flags index) = (flags < 2 ^ 32) × (index < 2 ^ 32)

-- The kind is one of the builders' grammar: any but a tag.
abbrev pub IsBuiltKind : SymbolKind → Type 0
IsBuiltKind Tag = ⊥
IsBuiltKind _ = Unit {0}

-- The same for a symbol of a `SymbolTable`, which is neither a tag nor a section.
abbrev pub IsGivenSymbol : Symbol → Type 0
IsGivenSymbol (indexed Tag flags index n) = ⊥
IsGivenSymbol (of_section flags index) = ⊥
IsGivenSymbol symbol = IsFullSymbol symbol

-- The name, or for data the definition, is there exactly if the flags say so.
abbrev pub IsAsFlagged : Symbol → Type 0
IsAsFlagged (indexed kind flags index n) = is_given n ≡ has_name flags
IsAsFlagged (of_data flags n d) = is_given d ≡ has_definition flags
IsAsFlagged (of_section flags index) = Unit {0}

-- The symbol of a `SymbolTable` is well-formed: its numbers and names are valid, and it is as its
-- flags say.
abbrev pub IsSymbol : Symbol → Type 0
IsSymbol symbol = IsGivenSymbol symbol × IsAsFlagged symbol

-- The symbol of any kind is well-formed: its numbers and names are valid, and it is as its flags
-- say.
abbrev pub IsObjectSymbol : Symbol → Type 0
IsObjectSymbol symbol = IsFullSymbol symbol × IsAsFlagged symbol

-- The definition in this data segment, at this offset and of this size.
abbrev pub definition_of : ℕ × (ℕ × ℕ) → DataSymbolDefinition
definition_of parts = record { index = parts.0; offset = parts.1.0; size = parts.1.1 }

-- A data definition: the index of a data segment, an offset in it, and a size.
abbrev pub definition : Format DataSymbolDefinition
definition = mapped definition_of (pair u32 (pair u32 u32))

-- The symbol of this kind and these flags, an index and an optional name.
abbrev pub indexed_of : SymbolKind → ℕ → ℕ × Option (List ℕ) → Symbol
indexed_of kind flags parts = indexed kind flags parts.0 parts.1

-- The data symbol of these flags, a name and an optional definition.
abbrev pub data_of : ℕ → List ℕ × Option DataSymbolDefinition → Symbol
data_of flags parts = of_data flags parts.0 parts.1

-- The bytes after the kind of a symbol with an index: flags, the index, and a name if the flags say
-- so.
abbrev pub indexed_symbol : SymbolKind → Format Symbol
indexed_symbol kind = tagged u32 (λ flags. mapped (indexed_of kind flags) (pair u32 (optional (has_name flags) name)))

-- The bytes after the kind of a data symbol: flags, a name, and a definition if the flags say so.
abbrev pub data_symbol : Format Symbol
data_symbol = tagged u32 (λ flags. mapped (data_of flags) (pair name (optional (has_definition flags) definition)))

-- The bytes after the kind of a section symbol: flags, and the index of the section.
abbrev pub section_symbol : Format Symbol
section_symbol = tagged u32 (λ flags. mapped (of_section flags) u32)

-- The formats of a symbol by the byte of its kind, as the builders' grammar has them: 00 is a
-- function, 01 data, 02 a global, 05 a table.
abbrev pub symbol_tags : List (ℕ × Format Symbol)
symbol_tags = (0x00, indexed_symbol Function) ∷ (0x01, data_symbol) ∷ (0x02, indexed_symbol Global) ∷ (0x05, indexed_symbol Table) ∷ []

-- A symbol of the builders' grammar: a kind, flags, and the fields that these select.
abbrev pub built_symbol : Format Symbol
built_symbol = tagged byte (choice symbol_tags (λ b. impossible))

-- The formats of a symbol by the byte of its kind, as the tool conventions have them: 03 is a
-- section, 04 a tag, and the others are those of the builders' grammar.
abbrev pub full_symbol_tags : List (ℕ × Format Symbol)
full_symbol_tags = (0x00, indexed_symbol Function) ∷ (0x01, data_symbol) ∷ (0x02, indexed_symbol Global) ∷ (0x03, section_symbol) ∷ (0x04, indexed_symbol Tag) ∷ (0x05, indexed_symbol Table) ∷ []

-- A symbol of any kind.
abbrev pub full_symbol : Format Symbol
full_symbol = tagged byte (choice full_symbol_tags (λ b. impossible))

-- A symbol: in the standard's grammar of any kind, and in the builders' of four kinds.
abbrev pub symbol : Format Symbol
symbol = by_mode built_symbol full_symbol full_symbol

-- The pieces are the encodings of these symbols.
abbrev pub AreSymbols : List (List ℕ) → List Symbol → Type 0
AreSymbols = IsListOf symbol_encoding IsGivenSymbol

-- The pieces are the encodings of these symbols, of any kinds.
abbrev pub AreObjectSymbols : List (List ℕ) → List Symbol → Type 0
AreObjectSymbols = IsListOf symbol_encoding IsFullSymbol

-- ---- decoded symbols

-- The view of a decoded symbol.
abbrev pub symbol_view : read.Symbol → Symbol
symbol_view (items.Function flags index n) = indexed Function flags index (option_map (λ n. n.now) n)
symbol_view (items.Global flags index n) = indexed Global flags index (option_map (λ n. n.now) n)
symbol_view (items.Table flags index n) = indexed Table flags index (option_map (λ n. n.now) n)
symbol_view (items.DataSymbol flags n d) = of_data flags n.now d
symbol_view (items.Section flags index) = of_section flags index
symbol_view (items.Tag flags index n) = indexed Tag flags index (option_map (λ n. n.now) n)
