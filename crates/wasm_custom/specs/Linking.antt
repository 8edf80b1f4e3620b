-- This file defines the linking section, its encoding and its format. Tool conventions, Linking,
-- Linking Metadata Section.
use Rattle.std.specs.Prelude.{ℕ, List, [], ◌∷◌, IsUtf8, codes, map, false}
use Rattle.wasm_base.specs.Words.{Kind, ContainsItems, Format, byte, name, any_bytes, impossible, mapped, tagged, choice, by_mode, vec, size_prefixed, u32, just, size_prefixed_encoding, vec_encoding}
use Rattle.wasm_base.specs.Words.{IsEncodableVec, SectionDecoding}
use Rattle.wasm_custom.specs.Customs.{subsection_encoding, named_payload, decoding_as}
use Rattle.wasm_custom.specs.Symbols.{Symbol, symbol_encoding, IsSymbol, IsObjectSymbol, built_symbol, full_symbol, symbol_view}
use Rattle.wasm_custom.specs.Segments.{SegmentInfo, segment_encoding, IsSegment, segment, segment_view}
use Rattle.wasm_custom.specs.InitFunctions.{init_encoding, IsInit, init_function}
use Rattle.wasm_custom.specs.Comdats.{Comdat, comdat_encoding, IsComdat, comdat, comdat_view}
use Rattle.wasm_custom.specs.Entries.{entries}
use Rattle.wasm_custom.specs.declared.init_functions.InitFunction.{InitFunction}
use Rattle.wasm_custom.specs.declared.linking.LinkItem as read
use Rattle.wasm_custom.specs.declared.linking.LinkItem.TheVariants as items

-- A subsection: segments, init functions, COMDAT groups, a symbol table, the architecture of the
-- target, which is not in the tool conventions, or the id and the content of any other subsection.
pub data LinkItem : Type 0 where
  Segments : List SegmentInfo → LinkItem
  InitFunctions : List InitFunction → LinkItem
  Comdats : List Comdat → LinkItem
  Symbols : List Symbol → LinkItem
  Target : List ℕ → LinkItem
  OtherLink : ℕ → List ℕ → LinkItem

-- The encoding of a subsection: its id, from 5 for segments to 9 for the architecture, and its
-- size-prefixed content.
abbrev pub link_encoding : LinkItem → List ℕ
link_encoding (Segments segments) = subsection_encoding 5 (vec_encoding segment_encoding segments)
link_encoding (InitFunctions functions) = subsection_encoding 6 (vec_encoding init_encoding functions)
link_encoding (Comdats comdats) = subsection_encoding 7 (vec_encoding comdat_encoding comdats)
link_encoding (Symbols symbols) = subsection_encoding 8 (vec_encoding symbol_encoding symbols)
link_encoding (Target n) = subsection_encoding 9 (size_prefixed_encoding n)
link_encoding (OtherLink id content) = subsection_encoding id content

-- The subsection of a `LinkingSection` is well-formed: its symbols are well-formed and their number
-- is at most 2^32 - 1, or its name is UTF-8. No other subsection is one of a `LinkingSection`.
abbrev pub IsLink : LinkItem → Type 0
IsLink (Symbols symbols) = IsEncodableVec IsSymbol symbols
IsLink (Target n) = IsUtf8 n
IsLink _ = ⊥

-- The subsection of an `ObjectLinking` is well-formed: its items are well-formed and their number
-- is at most 2^32 - 1, or its name is UTF-8. No other subsection is one of an `ObjectLinking`.
abbrev pub IsObjectLink : LinkItem → Type 0
IsObjectLink (Segments segments) = IsEncodableVec IsSegment segments
IsObjectLink (InitFunctions functions) = IsEncodableVec IsInit functions
IsObjectLink (Comdats comdats) = IsEncodableVec IsComdat comdats
IsObjectLink (Symbols symbols) = IsEncodableVec IsObjectSymbol symbols
IsObjectLink (Target n) = IsUtf8 n
IsObjectLink (OtherLink id content) = ⊥

-- The formats of a subsection by its id, as the builders' grammar has them: a symbol table after 8,
-- the name of an architecture after 9.
abbrev pub link_tags : List (ℕ × Format LinkItem)
link_tags = (8, mapped Symbols (size_prefixed (vec built_symbol))) ∷ (9, mapped Target (size_prefixed name)) ∷ []

-- A subsection of the builders' grammar: an id, then its size-prefixed content.
abbrev pub built_link : Format LinkItem
built_link = tagged byte (choice link_tags (λ b. impossible))

-- The formats of a subsection by its id, as the tool conventions have them: segments after 5, init
-- functions after 6, COMDAT groups after 7, a table of symbols of all kinds after 8, and the name
-- of an architecture after 9.
abbrev pub full_link_tags : List (ℕ × Format LinkItem)
full_link_tags =
    (5, mapped Segments (size_prefixed (vec segment))) ∷
    (6, mapped InitFunctions (size_prefixed (vec init_function))) ∷
    (7, mapped Comdats (size_prefixed (vec comdat))) ∷
    (8, mapped Symbols (size_prefixed (vec full_symbol))) ∷
    (9, mapped Target (size_prefixed name)) ∷
    []

-- The format of a subsection of any other id: its content is not decoded.
abbrev pub other_link : ℕ → Format LinkItem
other_link id = mapped (OtherLink id) (size_prefixed any_bytes)

-- A subsection of any kind: an id, then its size-prefixed content.
abbrev pub full_link : Format LinkItem
full_link = tagged byte (choice full_link_tags other_link)

-- A subsection: in the standard's grammar of any kind, and in the builders' of two kinds.
abbrev pub link : Format LinkItem
link = by_mode built_link full_link full_link

-- The kind of subsections of a linking section.
abbrev pub link_items : Kind LinkItem LinkItem
link_items = record { encoding = link_encoding; IsWellFormed = IsLink; IsWellFormedPadded = IsLink; normal_form = λ item. item; format = link }

-- The kind of subsections of the linking section of an object file: all those of the tool
-- conventions.
abbrev pub object_items : Kind LinkItem LinkItem
object_items = record { encoding = link_encoding; IsWellFormed = IsObjectLink; IsWellFormedPadded = IsObjectLink; normal_form = λ item. item; format = full_link }

-- The section name `linking`.
abbrev pub linking_name : List ℕ
linking_name = codes "linking"

-- The version before the subsections of a linking section.
abbrev pub version : ℕ
version = 2

-- ---- the linking section

-- The pieces encode these subsections.
abbrev pub ContainsLinks : List (List ℕ) → List LinkItem → Type 0
ContainsLinks = ContainsItems link_items

-- The payload of a linking section: its name, the version and its subsections.
abbrev pub linking_payload : Format (List LinkItem)
linking_payload = named_payload linking_name (entries (just version u32) false link)

-- The linking section that decodes to these subsections.
abbrev pub linking_decoding : List LinkItem → SectionDecoding
linking_decoding subsections = decoding_as linking_payload subsections

-- ---- the linking section of an object file

-- The pieces encode these subsections, of any kinds.
abbrev pub ContainsObjectLinks : List (List ℕ) → List LinkItem → Type 0
ContainsObjectLinks = ContainsItems object_items

-- The payload of a linking section of an object file: its name, the version and subsections of any
-- kinds. In the standard's grammar it is that of every linking section.
abbrev pub object_payload : Format (List LinkItem)
object_payload = named_payload linking_name (entries (just version u32) false full_link)

-- The linking section of an object file that decodes to these subsections.
abbrev pub object_decoding : List LinkItem → SectionDecoding
object_decoding subsections = decoding_as object_payload subsections

-- ---- decoded subsections

-- The view of a decoded subsection.
abbrev pub link_view : {A : Type 0} → read.LinkItem A → LinkItem
link_view (items.Segments segments) = Segments (map segment_view segments.items)
link_view (items.InitFunctions functions) = InitFunctions functions.items
link_view (items.Comdats comdats) = Comdats (map comdat_view comdats.items)
link_view (items.Symbols symbols) = Symbols (map symbol_view symbols.items)
link_view (items.Arch n) = Target n.now
link_view (items.Other id bytes) = OtherLink id bytes.now
