-- This file defines the subsections of the linking section of an object file.
use Rattle.std.specs.Prelude.{ℕ, List, [], ◌∷◌, codes, Some}
use Rattle.wasm_custom.specs.Comdats.{Comdat}
use Rattle.wasm_custom.specs.Linking.{LinkItem, Segments, InitFunctions, Comdats, Symbols, Target}
use Rattle.wasm_custom.specs.Segments.{SegmentInfo}
use Rattle.wasm_custom.specs.Symbols.{Symbol, indexed, of_section}
use Rattle.wasm_custom.specs.declared.comdats.ComdatSymbol.{ComdatSymbol}
use Rattle.wasm_custom.specs.declared.init_functions.InitFunction.{InitFunction}
use Rattle.wasm_custom.specs.declared.symbols.SymbolKind.TheVariants.{Tag}

-- The segment of this name, aligned to 4 bytes.
abbrev pub read_only : List ℕ → SegmentInfo
read_only name = record { name = name; alignment = 2; flags = 0 }

-- The function of symbol 3, with this priority.
abbrev pub start : ℕ → InitFunction
start priority = record { priority = priority; symbol = 3 }

-- A member of a COMDAT group: data segment 4.
abbrev pub member : ComdatSymbol
member = record { kind = 0; index = 4 }

-- The COMDAT group `g` of that member.
abbrev pub group : Comdat
group = record { name = codes "g"; flags = 0; symbols = member ∷ [] }

-- The symbol of section 8.
abbrev pub section_symbol : Symbol
section_symbol = of_section 0 8

-- The symbol `t` of tag 1.
abbrev pub tag_symbol : Symbol
tag_symbol = indexed Tag 0 1 (Some (codes "t"))

-- A subsection of each kind: the segment of this name, the function of this priority, the group, the
-- symbols, and the architecture of the target.
abbrev pub objects : List ℕ → ℕ → List LinkItem
objects name priority = Segments (read_only name ∷ []) ∷ InitFunctions (start priority ∷ []) ∷ Comdats (group ∷ []) ∷ Symbols (section_symbol ∷ tag_symbol ∷ []) ∷ Target (codes "wasm32") ∷ []
