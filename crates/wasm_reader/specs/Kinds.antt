-- This file defines the kinds of sections, the content of each kind, and the view of decoded items.
use Rattle.std.specs.Prelude.{ℕ, List, [], ◌∷◌, length, map, Option, Some, None, cond, ◌==◌, if◌then◌else◌}
use Rattle.std.specs.List.{slice_get}
use Rattle.std.specs.Str.{bytes_eq}
use Rattle.wasm_base.specs.Words.{Format, u32, name, any_bytes, mapped, pair, vec, size_prefixed, number_of}
use Rattle.wasm_base.specs.Minimal.{Grammars, builders_alone, both_grammars}
use Rattle.wasm_code.specs.Words.{Body, body, body_view}
use Rattle.wasm_insn.specs.Words.{Plain}
use Rattle.wasm_sections.specs.Words.{DataItem, data_item, segment_view, ElementItem, element, element_view, ExportItem, item_of, export, GlobalItem, global_item, global_view, ImportItem}
use Rattle.wasm_sections.specs.Words.{imports_item, import_format, memory_type, TableItem, table_item, table_view, tag_type}
use Rattle.wasm_sections.specs.declared.memory.MemoryType.{MemoryType}
use Rattle.wasm_sections.specs.declared.tag.TagType.{TagType}
use Rattle.wasm_types.specs.Words.{TypeItem, type_item, entry_view}
-- begin: written by tools/kinds
use Rattle.wasm_custom.specs.Words.{NameItem, name_item_view, name_payload, name_name, LinkItem, link_view, linking_payload, linking_name, Field, field_view, producers_payload, producers_name}
use Rattle.wasm_custom.specs.Words.{Hints as FunctionHints, hints_view, hints_payload, hints_name, core_payload, core_name, modules_payload, modules_name, Instance, instance_view, instances_payload}
use Rattle.wasm_custom.specs.Words.{instances_name, StackFrame, stack_frame_view, stack_payload, stack_name, Feature, feature_view, features_payload, features_name, source_map_payload, source_map_name}
use Rattle.wasm_custom.specs.Words.{debug_file_payload, debug_file_name, build_id_payload, build_id_name, DylinkItem, dylink_view, dylink_payload, dylink_name, Relocations as RelocationsModel}
use Rattle.wasm_custom.specs.Words.{relocations_payload, Frequencies, frequencies_view, frequencies_payload, frequencies_name, Orders, orders_view, orders_payload, orders_name, HintedTargets}
use Rattle.wasm_custom.specs.Words.{call_targets_view, call_targets_payload, call_targets_name}
-- end: written by tools/kinds
use Rattle.wasm_custom.specs.Words.{begins_with, relocations_prefix}
use Rattle.wasm_reader.specs.declared.kinds.Items.{Items}
use Rattle.wasm_reader.specs.declared.kinds.SectionKind.{SectionKind}
use Rattle.wasm_base.specs.declared.section_id.SectionId.TheVariants as ids
use Rattle.wasm_reader.specs.declared.kinds.Items.TheVariants as items
use Rattle.wasm_reader.specs.declared.kinds.SectionKind.TheVariants as kinds

-- The content of a section.
pub data Contents : Type 0 where
  -- begin: written by tools/kinds
  Bodies : List Body → Contents
  Segments : List DataItem → Contents
  DataCount : ℕ → Contents
  Elements : List (ElementItem (List Plain)) → Contents
  Exports : List ExportItem → Contents
  Functions : List ℕ → Contents
  Globals : List GlobalItem → Contents
  Imports : List ImportItem → Contents
  Memories : List MemoryType → Contents
  Start : ℕ → Contents
  Tables : List TableItem → Contents
  Tags : List TagType → Contents
  Names : List NameItem → Contents
  Linking : List LinkItem → Contents
  Producers : List Field → Contents
  Hints : List FunctionHints → Contents
  Core : List ℕ → Contents
  CoreModules : List (List ℕ) → Contents
  CoreInstances : List Instance → Contents
  CoreStack : List ℕ × List StackFrame → Contents
  Custom : List ℕ × List ℕ → Contents
  Raw : List ℕ → Contents
  Types : List TypeItem → Contents
  TargetFeatures : List Feature → Contents
  SourceMappingUrl : List ℕ → Contents
  ExternalDebugInfo : List ℕ → Contents
  BuildId : List ℕ → Contents
  Dylink : List DylinkItem → Contents
  Relocations : RelocationsModel → Contents
  InstructionFrequencies : List Frequencies → Contents
  CompilationOrders : List Orders → Contents
  CallTargets : List HintedTargets → Contents
  -- end: written by tools/kinds

-- The format of the payload of a section of this kind.
abbrev pub content : SectionKind → Format Contents
-- begin: written by tools/kinds
content kinds.Bodies = mapped Bodies (vec (size_prefixed body))
content kinds.Segments = mapped Segments (vec data_item)
content kinds.DataCount = mapped DataCount u32
content kinds.Elements = mapped Elements (vec element)
content kinds.Exports = mapped Exports (vec export)
content kinds.Functions = mapped Functions (vec u32)
content kinds.Globals = mapped Globals (vec global_item)
content kinds.Imports = mapped Imports (vec import_format)
content kinds.Memories = mapped Memories (vec memory_type)
content kinds.Start = mapped Start u32
content kinds.Tables = mapped Tables (vec table_item)
content kinds.Tags = mapped Tags (vec tag_type)
content kinds.Names = mapped Names name_payload
content kinds.Linking = mapped Linking linking_payload
content kinds.Producers = mapped Producers producers_payload
content kinds.Hints = mapped Hints hints_payload
content kinds.Core = mapped Core core_payload
content kinds.CoreModules = mapped CoreModules modules_payload
content kinds.CoreInstances = mapped CoreInstances instances_payload
content kinds.CoreStack = mapped CoreStack stack_payload
content kinds.Custom = mapped Custom (pair name any_bytes)
content kinds.Raw = mapped Raw any_bytes
content kinds.Types = mapped Types (vec type_item)
content kinds.TargetFeatures = mapped TargetFeatures features_payload
content kinds.SourceMappingUrl = mapped SourceMappingUrl source_map_payload
content kinds.ExternalDebugInfo = mapped ExternalDebugInfo debug_file_payload
content kinds.BuildId = mapped BuildId build_id_payload
content kinds.Dylink = mapped Dylink dylink_payload
content kinds.Relocations = mapped Relocations relocations_payload
content kinds.InstructionFrequencies = mapped InstructionFrequencies frequencies_payload
content kinds.CompilationOrders = mapped CompilationOrders orders_payload
content kinds.CallTargets = mapped CallTargets call_targets_payload

-- end: written by tools/kinds

-- The grammars whose minimal encoding is written for the items of a section of this kind. In the
-- standard's grammar, types, instructions and flags may have a shorter encoding than in the
-- builders', which is the one that is written.
abbrev pub grammars_of : SectionKind → Grammars
-- begin: written by tools/kinds
grammars_of kinds.Bodies = builders_alone
grammars_of kinds.Segments = builders_alone
grammars_of kinds.Elements = builders_alone
grammars_of kinds.Globals = builders_alone
grammars_of kinds.Imports = builders_alone
grammars_of kinds.Tables = builders_alone
grammars_of kinds.Types = builders_alone
grammars_of kind = both_grammars

-- end: written by tools/kinds

-- The kind of section that has this content.
abbrev pub kind_in : Contents → SectionKind
-- begin: written by tools/kinds
kind_in (Bodies xs) = kinds.Bodies
kind_in (Segments xs) = kinds.Segments
kind_in (DataCount n) = kinds.DataCount
kind_in (Elements xs) = kinds.Elements
kind_in (Exports xs) = kinds.Exports
kind_in (Functions xs) = kinds.Functions
kind_in (Globals xs) = kinds.Globals
kind_in (Imports xs) = kinds.Imports
kind_in (Memories xs) = kinds.Memories
kind_in (Start n) = kinds.Start
kind_in (Tables xs) = kinds.Tables
kind_in (Tags xs) = kinds.Tags
kind_in (Names x) = kinds.Names
kind_in (Linking x) = kinds.Linking
kind_in (Producers x) = kinds.Producers
kind_in (Hints x) = kinds.Hints
kind_in (Core x) = kinds.Core
kind_in (CoreModules x) = kinds.CoreModules
kind_in (CoreInstances x) = kinds.CoreInstances
kind_in (CoreStack x) = kinds.CoreStack
kind_in (Custom x) = kinds.Custom
kind_in (Raw x) = kinds.Raw
kind_in (Types xs) = kinds.Types
kind_in (TargetFeatures x) = kinds.TargetFeatures
kind_in (SourceMappingUrl x) = kinds.SourceMappingUrl
kind_in (ExternalDebugInfo x) = kinds.ExternalDebugInfo
kind_in (BuildId x) = kinds.BuildId
kind_in (Dylink x) = kinds.Dylink
kind_in (Relocations x) = kinds.Relocations
kind_in (InstructionFrequencies x) = kinds.InstructionFrequencies
kind_in (CompilationOrders x) = kinds.CompilationOrders
kind_in (CallTargets x) = kinds.CallTargets

-- end: written by tools/kinds

-- The view of decoded items.
abbrev pub contents_of : {A : Type 0} → Items A → Contents
-- begin: written by tools/kinds
contents_of (items.Bodies v) = Bodies (map body_view v.items)
contents_of (items.Segments v) = Segments (map segment_view v.items)
contents_of (items.DataCount n) = DataCount n
contents_of (items.Elements v) = Elements (map element_view v.items)
contents_of (items.Exports v) = Exports (map item_of v.items)
contents_of (items.Functions v) = Functions v.items
contents_of (items.Globals v) = Globals (map global_view v.items)
contents_of (items.Imports v) = Imports (map imports_item v.items)
contents_of (items.Memories v) = Memories v.items
contents_of (items.Start n) = Start n
contents_of (items.Tables v) = Tables (map table_view v.items)
contents_of (items.Tags v) = Tags v.items
contents_of (items.Names v) = Names (map name_item_view v.items)
contents_of (items.Linking v) = Linking (map link_view v.items)
contents_of (items.Producers v) = Producers (map field_view v.items)
contents_of (items.Hints v) = Hints (map hints_view v.items)
contents_of (items.Core n) = Core n.now
contents_of (items.CoreModules v) = CoreModules (map (λ n. n.now) v.items)
contents_of (items.CoreInstances v) = CoreInstances (map instance_view v.items)
contents_of (items.CoreStack n v) = CoreStack (n.now, map stack_frame_view v.items)
contents_of (items.Custom n b) = Custom (n.now, b.now)
contents_of (items.Raw b) = Raw b.now
contents_of (items.Types v) = Types (map entry_view v.items)
contents_of (items.TargetFeatures v) = TargetFeatures (map feature_view v.items)
contents_of (items.SourceMappingUrl x) = SourceMappingUrl x.now
contents_of (items.ExternalDebugInfo x) = ExternalDebugInfo x.now
contents_of (items.BuildId x) = BuildId x.now
contents_of (items.Dylink v) = Dylink (map dylink_view v.items)
contents_of (items.Relocations n section v) = Relocations (n.now, (section, v.items))
contents_of (items.InstructionFrequencies v) = InstructionFrequencies (map frequencies_view v.items)
contents_of (items.CompilationOrders v) = CompilationOrders (map orders_view v.items)
contents_of (items.CallTargets v) = CallTargets (map call_targets_view v.items)

-- end: written by tools/kinds

-- The kinds, in the order of their numbers.
abbrev pub kinds_in_order : List SectionKind
kinds_in_order =
    -- begin: written by tools/kinds
    kinds.Bodies ∷ kinds.Segments ∷ kinds.DataCount ∷ kinds.Elements ∷ kinds.Exports ∷ kinds.Functions ∷ kinds.Globals ∷ kinds.Imports ∷ kinds.Memories ∷ kinds.Start ∷ kinds.Tables ∷ kinds.Tags
    ∷ kinds.Names ∷ kinds.Linking ∷ kinds.Producers ∷ kinds.Hints ∷ kinds.Core ∷ kinds.CoreModules ∷ kinds.CoreInstances ∷ kinds.CoreStack ∷ kinds.Custom ∷ kinds.Raw ∷ kinds.Types ∷ kinds.TargetFeatures ∷ kinds.SourceMappingUrl ∷ kinds.ExternalDebugInfo ∷ kinds.BuildId ∷ kinds.Dylink ∷ kinds.Relocations ∷ kinds.InstructionFrequencies ∷ kinds.CompilationOrders ∷ kinds.CallTargets ∷ []
    -- end: written by tools/kinds

-- The kind of a number, counted from 0.
abbrev pub kind_numbered : ℕ → Option SectionKind
kind_numbered n = slice_get kinds_in_order n

-- The kind that the list has for the id, and `Raw` if it has none.
abbrev pub kind_among : List (ℕ × SectionKind) → ℕ → SectionKind
kind_among [] id = kinds.Raw
kind_among (k ∷ ks) id = cond (id == k.0) k.1 (kind_among ks id)

-- The kinds of sections by their ids. A custom section has the kind `Custom`, whatever its name.
abbrev pub known_kinds : List (ℕ × SectionKind)
known_kinds =
    -- begin: written by tools/kinds
    (number_of ids.Custom, kinds.Custom) ∷ (number_of ids.Import, kinds.Imports) ∷ (number_of ids.Function, kinds.Functions) ∷ (number_of ids.Table, kinds.Tables) ∷ (number_of ids.Memory, kinds.Memories) ∷ (number_of ids.Global, kinds.Globals)
    ∷ (number_of ids.Export, kinds.Exports)
    ∷ (number_of ids.Start, kinds.Start)
    ∷ (number_of ids.Element, kinds.Elements)
    ∷ (number_of ids.Code, kinds.Bodies)
    ∷ (number_of ids.Data, kinds.Segments)
    ∷ (number_of ids.DataCount, kinds.DataCount)
    ∷ (number_of ids.Tag, kinds.Tags)
    ∷ []
    -- end: written by tools/kinds

-- The kind of a section of this id. Type sections and ids above 13 are `Raw`.
abbrev pub kind_of_id : ℕ → SectionKind
kind_of_id id = kind_among known_kinds id

-- The kind that the list has for the name, and `Custom` if it has none.
abbrev pub kind_among_names : List (List ℕ × SectionKind) → List ℕ → SectionKind
kind_among_names [] n = kinds.Custom
kind_among_names (k ∷ ks) n = if bytes_eq n k.0 then k.1 else kind_among_names ks n

-- The kinds of custom sections by their names.
abbrev pub known_names : List (List ℕ × SectionKind)
known_names =
    -- begin: written by tools/kinds
    (name_name, kinds.Names) ∷ (linking_name, kinds.Linking) ∷ (producers_name, kinds.Producers) ∷ (features_name, kinds.TargetFeatures)
    ∷ (hints_name, kinds.Hints)
    ∷ (core_name, kinds.Core)
    ∷ (modules_name, kinds.CoreModules)
    ∷ (instances_name, kinds.CoreInstances)
    ∷ (stack_name, kinds.CoreStack)
    ∷ (source_map_name, kinds.SourceMappingUrl)
    ∷ (debug_file_name, kinds.ExternalDebugInfo)
    ∷ (build_id_name, kinds.BuildId)
    ∷ (dylink_name, kinds.Dylink)
    ∷ (frequencies_name, kinds.InstructionFrequencies)
    ∷ (orders_name, kinds.CompilationOrders)
    ∷ (call_targets_name, kinds.CallTargets)
    ∷ []
    -- end: written by tools/kinds

-- The kind of a custom section of this name: `Relocations` if the name begins with `reloc.`, and
-- otherwise that of the list.
abbrev pub kind_named : List ℕ → SectionKind
kind_named n = if begins_with relocations_prefix n then kinds.Relocations else kind_among_names known_names n

-- The number of items, if they are counted. The items of a type section are its entries, and a
-- recursion group is one entry.
abbrev pub number_in : Contents → Option ℕ
-- begin: written by tools/kinds
number_in (Bodies xs) = Some (length xs)
number_in (Segments xs) = Some (length xs)
number_in (DataCount n) = Some 1
number_in (Elements xs) = Some (length xs)
number_in (Exports xs) = Some (length xs)
number_in (Functions xs) = Some (length xs)
number_in (Globals xs) = Some (length xs)
number_in (Imports xs) = Some (length xs)
number_in (Memories xs) = Some (length xs)
number_in (Start n) = Some 1
number_in (Tables xs) = Some (length xs)
number_in (Tags xs) = Some (length xs)
number_in (Types xs) = Some (length xs)
number_in x = None

-- end: written by tools/kinds
