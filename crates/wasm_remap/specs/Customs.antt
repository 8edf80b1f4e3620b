-- This file defines what a map of indices makes of the items of custom sections.
use Rattle.std.specs.Prelude.{ℕ, ◌==◌, List, [], ◌∷◌, Option, Some, None, cond, map}
use Rattle.std.specs.Option.{option_map}
use Rattle.wasm_custom.specs.CodeMetadata.{HintedTargets, HintsIn, TargetItem}
use Rattle.wasm_custom.specs.Comdats.{Comdat}
use Rattle.wasm_custom.specs.CoreDumps.{Instance}
use Rattle.wasm_custom.specs.Hints.{Hints}
use Rattle.wasm_custom.specs.Linking.{LinkItem, Segments, InitFunctions, Comdats, Symbols, Target, OtherLink}
use Rattle.wasm_custom.specs.Names.{NameItem, Module, Map, Indirect, Other}
use Rattle.wasm_custom.specs.Symbols.{Symbol, indexed, of_data, of_section}
use Rattle.wasm_custom.specs.declared.comdats.ComdatSymbol.{ComdatSymbol}
use Rattle.wasm_custom.specs.declared.relocations.PlainRelocation.{PlainRelocation}
use Rattle.wasm_custom.specs.declared.relocations.PlainRelocation.TheVariants as relocations
use Rattle.wasm_custom.specs.declared.relocations.Relocation.{Relocation}
use Rattle.wasm_custom.specs.declared.relocations.Relocation.TheVariants.{Plain, Addend32, Addend64}
use Rattle.wasm_custom.specs.declared.symbols.DataSymbolDefinition.{DataSymbolDefinition}
use Rattle.wasm_custom.specs.declared.symbols.SymbolKind.{SymbolKind}
use Rattle.wasm_custom.specs.declared.symbols.SymbolKind.TheVariants as symbols
use Rattle.wasm_remap.specs.Mapping.{Mapping, mapped_first, mapped_in}
use Rattle.wasm_remap.specs.declared.spaces.IndexSpace.{IndexSpace}
use Rattle.wasm_remap.specs.declared.spaces.IndexSpace.TheVariants as spaces

-- The index space that the list has for the number, if it has one.
abbrev pub space_among : List (ℕ × IndexSpace) → ℕ → Option IndexSpace
space_among [] n = None
space_among (row ∷ rows) n = cond (n == row.0) (Some row.1) (space_among rows n)

-- ---- names

-- The index spaces of the subsections that have one, by their ids. Of an indirect name map it is
-- that of the outer indices: the functions of locals (2) and of labels (3), the types of fields (10)
-- and of parameters (12), and the tags of parameters (13).
abbrev pub name_spaces : List (ℕ × IndexSpace)
name_spaces =
    (1, spaces.Functions) ∷ (2, spaces.Functions) ∷ (3, spaces.Functions) ∷ (4, spaces.Types) ∷ (5, spaces.Tables) ∷ (6, spaces.Memories) ∷ (7, spaces.Globals)
    ∷ (8, spaces.Elements)
    ∷ (9, spaces.Data)
    ∷ (10, spaces.Types)
    ∷ (11, spaces.Tags)
    ∷ (12, spaces.Types)
    ∷ (13, spaces.Tags)
    ∷ []

-- A subsection of a name section.
abbrev pub remapped_name : Mapping → NameItem → NameItem
remapped_name m (Module n) = Module n
remapped_name m (Map id ns) = Map id (map (mapped_first m (space_among name_spaces id)) ns)
remapped_name m (Indirect id ms) = Indirect id (map (mapped_first m (space_among name_spaces id)) ms)
remapped_name m (Other id bytes) = Other id bytes

-- ---- hints

-- The hints of a function, which have no index.
abbrev pub remapped_hints_in : {Hint : Type 0} → Mapping → HintsIn Hint → HintsIn Hint
remapped_hints_in m h = mapped_first m (Some spaces.Functions) h

-- The branch hints of a function.
abbrev pub remapped_hints : Mapping → Hints → Hints
remapped_hints m h = remapped_hints_in m h

-- A call target.
abbrev pub remapped_target : Mapping → TargetItem → TargetItem
remapped_target m t = mapped_first m (Some spaces.Functions) t

-- The targets of the call at an offset.
abbrev pub remapped_target_hint : Mapping → ℕ × List TargetItem → ℕ × List TargetItem
remapped_target_hint m h = (h.0, map (remapped_target m) h.1)

-- The targets of the calls of a function.
abbrev pub remapped_targets : Mapping → HintedTargets → HintedTargets
remapped_targets m h = (m spaces.Functions h.0, map (remapped_target_hint m) h.1)

-- ---- core dumps

-- An instance of a core dump: its memories and globals are those of the file. The index of its module
-- stays.
abbrev pub remapped_instance : Mapping → Instance → Instance
remapped_instance m i = record { module_index = i.module_index; memories = map (m spaces.Memories) i.memories; globals = map (m spaces.Globals) i.globals }

-- ---- linking

-- The index space of a symbol with an index.
abbrev pub space_of_symbol : SymbolKind → IndexSpace
space_of_symbol symbols.Function = spaces.Functions
space_of_symbol symbols.Global = spaces.Globals
space_of_symbol symbols.Table = spaces.Tables
space_of_symbol symbols.Tag = spaces.Tags

-- The definition of a data symbol: the index of its data segment is mapped.
abbrev pub remapped_definition : Mapping → DataSymbolDefinition → DataSymbolDefinition
remapped_definition m d = record { index = m spaces.Data d.index; offset = d.offset; size = d.size }

-- A symbol. Indices of sections stay.
abbrev pub remapped_symbol : Mapping → Symbol → Symbol
remapped_symbol m (indexed kind flags index name) = indexed kind flags (m (space_of_symbol kind) index) name
remapped_symbol m (of_data flags name definition) = of_data flags name (option_map (remapped_definition m) definition)
remapped_symbol m (of_section flags section) = of_section flags section

-- The index spaces of the members of a COMDAT group, by their kinds. A member of kind 5 is a
-- section.
abbrev pub comdat_spaces : List (ℕ × IndexSpace)
comdat_spaces = (0, spaces.Data) ∷ (1, spaces.Functions) ∷ (2, spaces.Globals) ∷ (3, spaces.Tags) ∷ (4, spaces.Tables) ∷ []

-- A member of a COMDAT group.
abbrev pub remapped_member : Mapping → ComdatSymbol → ComdatSymbol
remapped_member m s = record { kind = s.kind; index = mapped_in m (space_among comdat_spaces s.kind) s.index }

-- A COMDAT group.
abbrev pub remapped_comdat : Mapping → Comdat → Comdat
remapped_comdat m c = record { name = c.name; flags = c.flags; symbols = map (remapped_member m) c.symbols }

-- A subsection of a linking section. Init functions have indices of symbols, which stay.
abbrev pub remapped_link : Mapping → LinkItem → LinkItem
remapped_link m (Segments xs) = Segments xs
remapped_link m (InitFunctions xs) = InitFunctions xs
remapped_link m (Comdats xs) = Comdats (map (remapped_comdat m) xs)
remapped_link m (Symbols xs) = Symbols (map (remapped_symbol m) xs)
remapped_link m (Target n) = Target n
remapped_link m (OtherLink id bytes) = OtherLink id bytes

-- ---- relocations

-- The index space of the index of a relocation. All but one have the index of a symbol.
abbrev pub space_of_relocation : PlainRelocation → Option IndexSpace
space_of_relocation relocations.TypeIndexLeb = Some spaces.Types
space_of_relocation kind = None

-- A relocation.
abbrev pub remapped_relocation : Mapping → Relocation → Relocation
remapped_relocation m (Plain kind offset index) = Plain kind offset (mapped_in m (space_of_relocation kind) index)
remapped_relocation m (Addend32 kind offset index addend) = Addend32 kind offset index addend
remapped_relocation m (Addend64 kind offset index addend) = Addend64 kind offset index addend
