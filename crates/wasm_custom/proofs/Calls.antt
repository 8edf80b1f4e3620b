-- This file proves the effect of each call on custom sections: lemmas that a caller's proof cites.
use Rattle.wasm_base.proofs.Words.{◌≡◌, ℕ, ◌^◌, ◌<◌, ◌≤◌, List, [], ◌∷◌, ◌++◌, length, true, false, IsUtf8, Option, Result, Ok, Err, refl, sym, ap, ap₂, subst, ◌∙◌, items_from_drains}
use Rattle.wasm_base.proofs.Words.{YieldsList-from_vec, map-id, All-nil, All-cons, array_into_iter_items, array_steps, array_steps_back, Count, Drains, copied_source, copied_steps, iter_rest}
use Rattle.wasm_base.proofs.Words.{iter_steps, into_iter_items, into_iter_len, into_iter_steps, EveryRun, ItemsAre, ItemsAreReversed, All, AllByRecursion, OnOk, UnambiguousWhole, Appends}
use Rattle.wasm_base.proofs.Words.{DecodesOneMore, DecodesBack, DecodesBackBoth, ContainsPadded, Format, size_prefixed, name, pair, any_bytes, custom, IsUnsignedInRange, SectionDecoding, decoding_of}
use Rattle.wasm_base.proofs.Words.{padded_decoding_of, DecodesSections, GainsDecoding, padded, unsigned_encoding, IsSizePrefixed, longest, size_prefixed_encoding, HasEncodableSize, vec_encoding}
use Rattle.wasm_base.proofs.Words.{IsEncodableVec, gains_section, gains_section_padded, adds_raw_padded, new_section, adds_item, array_items, copied_items, custom_unambiguous, payload-decodes}
use Rattle.wasm_base.proofs.Words.{custom-payload}
use Rattle.std.specs.declared.iter.Copied.{Copied}
use Rattle.std.specs.declared.slice.Iter.{Iter}
use Rattle.std.specs.declared.array.IntoIter.{IntoIter}
use Rattle.std.specs.declared.vec.Vec.{Vec}
use Rattle.wasm_base.specs.declared.refused.Refused.{Refused}
use Rattle.std.specs.declared.vec.IntoIter.{IntoIter as VecIter}
use Rattle.wasm_base.specs.Stores.{pieces_model}
use Rattle.wasm_custom.specs.{AddsList, AddsTwoLists, modules_name, instances_name, marked_encoding, core_name, SaysProcess, marked_name, Instance, instance, ContainsModules, ContainsInstances}
use Rattle.wasm_custom.specs.{modules_payload, instances_payload, core_payload, StackFrame, stack_name, SaysStack, stack_payload, value_encoding, IsValue, named_payload, named_encoding}
use Rattle.wasm_custom.specs.{IsEncodableNamed, NamedPayload, named_sized, subsection_encoding, entries_encoding, hints_name, hint_encoding, IsHint, hints, ContainsHints, hints_payload, linking_name}
use Rattle.wasm_custom.specs.{link_encoding, IsObjectLink, full_link, ContainsObjectLinks, object_payload, SegmentInfo, segment_encoding, AreSegments, init_encoding, AreInits, comdat_symbol_encoding}
use Rattle.wasm_custom.specs.{AreComdatSymbols, Comdat, AreComdats, version, LinkItem, Target, link, ContainsLinks, linking_payload, list_encoding, IsListOf, name_name, Naming, Inside, NameItem}
use Rattle.wasm_custom.specs.{Module, Map, Indirect, Other, name_map, indirect_map, subsection, of_map, of_indirect, of_other, name_kind_of, AreNamings, AreInsides, ContainsNames, name_payload}
use Rattle.wasm_custom.specs.{producers_name, Producer, Field, field, AreProducers, ContainsFields, producers_payload, Symbol, symbol_encoding, IsFullSymbol, IsGivenSymbol, IsAsFlagged, AreSymbols}
use Rattle.wasm_custom.specs.{AreObjectSymbols, prefix_code, Feature, feature, features_name, ContainsFeatures, features_payload, source_map_name, debug_file_name, AreNames, AreDylinkExports}
use Rattle.wasm_custom.specs.{AreDylinkImports, DylinkExport, DylinkImport, DylinkItem, needs_encoding, AreNeeds, export_flags_encoding, import_flags_encoding, dylink_encoding, IsDylink, dylink_item}
use Rattle.wasm_custom.specs.{ContainsDylink, dylink_name, dylink_payload, build_id_name, source_map_payload, debug_file_payload, build_id_payload, SaysText}
use Rattle.wasm_custom.specs.{relocations_name, relocation_encoding, IsRelocation, relocations_payload, SaysRelocations}
use Rattle.wasm_base.proofs.Words.{All-head, All-tail, ContainsItems, length-map, map}
use Rattle.wasm_custom.specs.{HintsIn, IsHinted, PayloadLaws, counted_payload, hint_as, hinted, hinted_encoding, hinted_items, hints_in}
use Rattle.wasm_custom.specs.Dylink.{Memory, Needed, ExportFlags, ImportFlags, RuntimePath}
use Rattle.wasm_custom.specs.Hints.{Hints}
use Rattle.wasm_custom.specs.Linking.{Segments, InitFunctions, Comdats, Symbols}
use Rattle.wasm_custom.specs.Relocations.{Relocations}
use Rattle.wasm_custom.specs.declared.init_functions.InitFunction.{InitFunction}
use Rattle.wasm_custom.specs.declared.code_metadata.CodeHint.{CodeHint}
use Rattle.wasm_custom.specs.declared.comdats.ComdatSymbol.{ComdatSymbol}
use Rattle.wasm_custom.specs.declared.dylink_symbols.DylinkMemory.{DylinkMemory}
use Rattle.wasm_custom.specs.declared.hints.BranchHint.{BranchHint}
use Rattle.wasm_custom.specs.declared.core_values.CoreDumpValue.{CoreDumpValue}
use Rattle.wasm_custom.specs.declared.relocations.Relocation.{Relocation}
use Rattle.wasm_custom.proofs.CustomLaws.{custom_back}
use Rattle.wasm_custom.proofs.ListLaws.{lists_none, lists_more, list_vector}
use Rattle.wasm_custom.proofs.NameLaws.{names_padded, names_inside_padded, subsection_unambiguous, names_section}
use Rattle.wasm_custom.proofs.CoreDumpLaws.{marked_unambiguous, core_whole, core_unambiguous, modules_section, instance_unambiguous, instances_section}
use Rattle.wasm_custom.proofs.CoreStackLaws.{value_unambiguous, stack_frame_unambiguous, stack_frame_laws, stack_whole, stack_unambiguous}
use Rattle.wasm_custom.proofs.DylinkLaws.{needs_unambiguous, export_flags_unambiguous, import_flags_unambiguous, dylink_unambiguous, dylink_section}
use Rattle.wasm_custom.proofs.FeatureLaws.{prefix_unambiguous, feature_unambiguous, features_section}
use Rattle.wasm_custom.proofs.HintLaws.{hints_unambiguous, hints_section}
use Rattle.wasm_custom.proofs.MetadataLaws.{call_targets_section, frequencies_section, hinted_section, orders_section, views_encoded}
use Rattle.wasm_custom.proofs.LinkLaws.{link_unambiguous, linking_section, full_link_unambiguous, object_section}
use Rattle.wasm_custom.proofs.ProducerLaws.{field_unambiguous, producers_section}
use Rattle.wasm_custom.proofs.RelocationLaws.{kind_unambiguous, relocation_unambiguous, relocation_laws, relocations_whole, relocations_unambiguous}
use Rattle.wasm_custom.proofs.SymbolLaws.{symbol_unambiguous, full_symbol_unambiguous}
use Rattle.wasm_custom.proofs.SegmentLaws.{segment_unambiguous}
use Rattle.wasm_custom.proofs.SingleLaws.{source_map_whole, debug_file_whole, build_id_whole, source_map_unambiguous, debug_file_unambiguous, build_id_unambiguous}
use Rattle.wasm_custom.proofs.InitLaws.{init_unambiguous}
use Rattle.wasm_custom.proofs.ComdatLaws.{comdat_symbol_unambiguous, comdat_unambiguous}

-- ---- lists

new_list : {X : Type 0} {encoding : X → List ℕ} {Is : X → Type 0} {entries : List (List ℕ)} → entries ≡ [] → IsListOf encoding Is entries []
new_list {encoding = encoding} {Is = Is} e = subst (λ ps. IsListOf encoding Is ps []) (sym e) lists_none

pub new_map : {entries : List (List ℕ)} → entries ≡ [] → AreNamings entries []
new_map e = new_list e

pub new_indirect_map : {entries : List (List ℕ)} → entries ≡ [] → AreInsides entries []
new_indirect_map e = new_list e

pub new_symbols : {entries : List (List ℕ)} → entries ≡ [] → AreSymbols entries []
new_symbols e = new_list e

pub new_object_symbols : {entries : List (List ℕ)} → entries ≡ [] → AreObjectSymbols entries []
new_object_symbols e = new_list e

pub new_segments : {entries : List (List ℕ)} → entries ≡ [] → AreSegments entries []
new_segments e = new_list e

pub new_inits : {entries : List (List ℕ)} → entries ≡ [] → AreInits entries []
new_inits e = new_list e

pub new_comdat_symbols : {entries : List (List ℕ)} → entries ≡ [] → AreComdatSymbols entries []
new_comdat_symbols e = new_list e

pub new_comdats : {entries : List (List ℕ)} → entries ≡ [] → AreComdats entries []
new_comdats e = new_list e

pub new_needed : {entries : List (List ℕ)} → entries ≡ [] → AreNames entries []
new_needed e = new_list e

pub new_runtime_path : {entries : List (List ℕ)} → entries ≡ [] → AreNames entries []
new_runtime_path e = new_list e

pub new_dylink_exports : {entries : List (List ℕ)} → entries ≡ [] → AreDylinkExports entries []
new_dylink_exports e = new_list e

pub new_dylink_imports : {entries : List (List ℕ)} → entries ≡ [] → AreDylinkImports entries []
new_dylink_imports e = new_list e

pub new_field : {entries : List (List ℕ)} → entries ≡ [] → AreProducers entries []
new_field e = new_list e

-- The list gains a member, whose encoding the call has added.
adds_member : {X : Type 0} {encoding : X → List ℕ} {Is : X → Type 0} {old new : List (List ℕ)} {xs : List X} → IsListOf encoding Is old xs → (x : X) → new ≡ old ++ encoding x ∷ [] → length old < longest → Is x → IsListOf encoding Is new (xs ++ x ∷ [])
adds_member {encoding = encoding} {Is = Is} {xs = xs} before x e spare is = subst (λ ps. IsListOf encoding Is ps (xs ++ x ∷ [])) (sym e) (lists_more x before spare refl is)

-- The map gains a name, whose length the call has checked.
pub adds_name : {old new : List (List ℕ)} {names : List Naming} → AreNamings old names → (naming : Naming) → new ≡ old ++ (unsigned_encoding naming.0 ++ size_prefixed_encoding naming.1) ∷ [] → length old < longest → HasEncodableSize naming.1
    → naming.0 < 2 ^ 32 → IsUtf8 naming.1 → AreNamings new (names ++ naming ∷ [])
adds_name before naming e spare encodable range utf8 = adds_member before naming e spare (range, (utf8, encodable))

-- The indirect map gains an index with the names of a map.
pub adds_inside : {old new entries : List (List ℕ)} {insides : List Inside} {names : List Naming} → AreInsides old insides → (index : ℕ) → AreNamings entries names → new ≡ old ++ (unsigned_encoding index ++ list_encoding (pieces_model.joins entries)) ∷ [] → length old < longest
    → index < 2 ^ 32 → AreInsides new (insides ++ (index, names) ∷ [])
adds_inside {old = old} {names = names} before index held e spare range =
    adds_member before (index, names) (e ∙ ap (λ s. old ++ (unsigned_encoding index ++ s) ∷ []) (list_vector held)) spare (range, held.encodable)

-- The table gains a symbol.
pub adds_symbol : {old new : List (List ℕ)} {symbols : List Symbol} → AreSymbols old symbols → (symbol : Symbol) → new ≡ old ++ symbol_encoding symbol ∷ [] → length old < longest → IsGivenSymbol symbol → AreSymbols new (symbols ++ symbol ∷ [])
adds_symbol before symbol e spare given = adds_member before symbol e spare given

-- The table of an object file gains a symbol.
pub adds_object_symbol : {old new : List (List ℕ)} {symbols : List Symbol} → AreObjectSymbols old symbols → (symbol : Symbol) → new ≡ old ++ symbol_encoding symbol ∷ [] → length old < longest → IsFullSymbol symbol → AreObjectSymbols new (symbols ++ symbol ∷ [])
adds_object_symbol before symbol e spare full = adds_member before symbol e spare full

-- The list gains a segment, whose name's length the call has checked.
pub adds_segment : {old new : List (List ℕ)} {segments : List SegmentInfo} → AreSegments old segments → (segment : SegmentInfo) → new ≡ old ++ segment_encoding segment ∷ [] → length old < longest → HasEncodableSize segment.name
    → IsUtf8 segment.name → segment.alignment < 2 ^ 32 → segment.flags < 2 ^ 32 → AreSegments new (segments ++ segment ∷ [])
adds_segment before segment e spare encodable utf8 alignment flags = adds_member before segment e spare (record { name = (utf8, encodable); alignment = alignment; flags = flags })

-- The list gains an init function.
pub adds_init : {old new : List (List ℕ)} {functions : List InitFunction} → AreInits old functions → (function : InitFunction) → new ≡ old ++ init_encoding function ∷ [] → length old < longest → function.priority < 2 ^ 32 → function.symbol < 2 ^ 32 → AreInits new (functions ++ function ∷ [])
adds_init before function e spare priority symbol = adds_member before function e spare (record { priority = priority; symbol = symbol })

-- The group gains a member.
pub adds_comdat_symbol : {old new : List (List ℕ)} {symbols : List ComdatSymbol} → AreComdatSymbols old symbols → (symbol : ComdatSymbol) → new ≡ old ++ comdat_symbol_encoding symbol ∷ [] → length old < longest → symbol.index < 2 ^ 32 → AreComdatSymbols new (symbols ++ symbol ∷ [])
adds_comdat_symbol before symbol e spare range = adds_member before symbol e spare range

-- The list gains a group of these members, whose name's length the call has checked.
pub adds_comdat : {old new entries : List (List ℕ)} {comdats : List Comdat} {symbols : List ComdatSymbol} → AreComdats old comdats → (n : List ℕ) (flags : ℕ) → AreComdatSymbols entries symbols → new ≡ old ++ (size_prefixed_encoding n ++ (unsigned_encoding flags ++ list_encoding (pieces_model.joins entries))) ∷ []
    → length old < longest → HasEncodableSize n → IsUtf8 n → flags < 2 ^ 32 → AreComdats new (comdats ++ record { name = n; flags = flags; symbols = symbols } ∷ [])
adds_comdat {old = old} {symbols = symbols} before n flags held e spare encodable utf8 range =
    adds_member before (record { name = n; flags = flags; symbols = symbols }) (e ∙ ap (λ s. old ++ (size_prefixed_encoding n ++ (unsigned_encoding flags ++ s)) ∷ []) (list_vector held)) spare (record { name = (utf8, encodable); flags = range; symbols = held.encodable })

-- The list gains a library, whose name's length the call has checked.
pub adds_library : {old new : List (List ℕ)} {names : List (List ℕ)} → AreNames old names → (n : List ℕ) → new ≡ old ++ size_prefixed_encoding n ∷ [] → length old < longest → HasEncodableSize n → IsUtf8 n → AreNames new (names ++ n ∷ [])
adds_library before n e spare encodable utf8 = adds_member before n e spare (utf8, encodable)

-- The list gains a folder, whose path's length the call has checked.
pub adds_folder : {old new : List (List ℕ)} {paths : List (List ℕ)} → AreNames old paths → (path : List ℕ) → new ≡ old ++ size_prefixed_encoding path ∷ [] → length old < longest → HasEncodableSize path → IsUtf8 path → AreNames new (paths ++ path ∷ [])
adds_folder before path e spare encodable utf8 = adds_member before path e spare (utf8, encodable)

-- The list gains the flags of an exported symbol, whose name's length the call has checked.
pub adds_dylink_export : {old new : List (List ℕ)} {exports : List DylinkExport} → AreDylinkExports old exports → (export : DylinkExport) → new ≡ old ++ export_flags_encoding export ∷ [] → length old < longest → HasEncodableSize export.name × Unit {0} → IsUtf8 export.name
    → export.flags < 2 ^ 32 → AreDylinkExports new (exports ++ export ∷ [])
adds_dylink_export before export e spare encodable utf8 flags = adds_member before export e spare (record { name = (utf8, encodable.0); flags = flags })

-- The list gains the flags of an imported symbol, whose names' lengths the call has checked.
pub adds_dylink_import : {old new : List (List ℕ)} {imports : List DylinkImport} → AreDylinkImports old imports → (import : DylinkImport) → new ≡ old ++ import_flags_encoding import ∷ [] → length old < longest
    → HasEncodableSize import.module_name × HasEncodableSize import.name × Unit {0} → IsUtf8 import.module_name → IsUtf8 import.name → import.flags < 2 ^ 32 → AreDylinkImports new (imports ++ import ∷ [])
adds_dylink_import before import e spare encodable from utf8 flags = adds_member before import e spare (record { module_name = (from, encodable.0); name = (utf8, encodable.1); flags = flags })

-- The field gains a value, whose lengths the call has checked.
pub adds_value : {old new : List (List ℕ)} {values : List Producer} → AreProducers old values → (value : Producer) → new ≡ old ++ (size_prefixed_encoding value.0 ++ size_prefixed_encoding value.1) ∷ [] → length old < longest → HasEncodableSize value.0 × HasEncodableSize value.1
    → IsUtf8 value.0 → IsUtf8 value.1 → AreProducers new (values ++ value ∷ [])
adds_value before value e spare encodable name version = adds_member before value e spare ((name, encodable.0), (version, encodable.1))

-- ---- new sections

pub new_names : {entries : List (List ℕ)} → entries ≡ [] → ContainsNames entries []
new_names e = new_section e

pub new_linking : {entries : List (List ℕ)} → entries ≡ [] → ContainsLinks entries []
new_linking e = new_section e

pub new_objects : {entries : List (List ℕ)} → entries ≡ [] → ContainsObjectLinks entries []
new_objects e = new_section e

pub new_producers : {entries : List (List ℕ)} → entries ≡ [] → ContainsFields entries []
new_producers e = new_section e

pub new_dylink : {entries : List (List ℕ)} → entries ≡ [] → ContainsDylink entries []
new_dylink e = new_section e

pub new_features : {entries : List (List ℕ)} → entries ≡ [] → ContainsFeatures entries []
new_features e = new_section e

pub new_hints : {entries : List (List ℕ)} → entries ≡ [] → ContainsHints entries []
new_hints e = new_section e

-- A section of code metadata of any values.
pub new_hinted : {X : Type 0} {F : Format X} {Is : X → Type 0} {encoding : X → List ℕ} {entries : List (List ℕ)} → entries ≡ [] → ContainsItems (hinted_items F Is encoding) entries []
new_hinted e = new_section e

pub new_modules : {entries : List (List ℕ)} → entries ≡ [] → ContainsModules entries []
new_modules e = new_section e

pub new_instances : {entries : List (List ℕ)} → entries ≡ [] → ContainsInstances entries []
new_instances e = new_section e

-- ---- one more item

-- The section gains the name of the module.
pub adds_module_name : {old new : List (List ℕ)} {items : List NameItem} → ContainsNames old items → (n : List ℕ) → new ≡ old ++ subsection_encoding 0 (size_prefixed_encoding n) ∷ [] → IsUtf8 n → ContainsNames new (items ++ Module n ∷ [])
adds_module_name before n e utf8 = adds_item before (Module n) e utf8

-- The section gains the names of a map. That the id is of a name map is `refl`.
pub adds_names : {old new entries : List (List ℕ)} {items : List NameItem} {names : List Naming} → ContainsNames old items → (id : ℕ) → AreNamings entries names → new ≡ old ++ subsection_encoding id (list_encoding (pieces_model.joins entries)) ∷ []
    → name_kind_of id ≡ of_map → ContainsNames new (items ++ Map id names ∷ [])
adds_names {old = old} {names = names} before id held e kind =
    adds_item before (Map id names) (e ∙ ap (λ s. old ++ subsection_encoding id s ∷ []) (list_vector held)) (kind, held.encodable)

-- The section gains the names of an indirect map.
pub adds_names_inside : {old new entries : List (List ℕ)} {items : List NameItem} {insides : List Inside} → ContainsNames old items → (id : ℕ) → AreInsides entries insides → new ≡ old ++ subsection_encoding id (list_encoding (pieces_model.joins entries)) ∷ []
    → name_kind_of id ≡ of_indirect → ContainsNames new (items ++ Indirect id insides ∷ [])
adds_names_inside {old = old} {insides = insides} before id held e kind =
    adds_item before (Indirect id insides) (e ∙ ap (λ s. old ++ subsection_encoding id s ∷ []) (list_vector held)) (kind, held.encodable)

-- The section gains the bytes of a subsection that no call names.
pub adds_other_names : {old new : List (List ℕ)} {items : List NameItem} → ContainsNames old items → (id : ℕ) (content : List ℕ) → new ≡ old ++ subsection_encoding id content ∷ [] → name_kind_of id ≡ of_other → ContainsNames new (items ++ Other id content ∷ [])
adds_other_names before id content e kind = adds_item before (Other id content) e kind

-- The section gains name maps that raw bytes encode, possibly padded, and indirect ones.
pub adds_raw_names : {old new : List (List ℕ)} {items : List NameItem} → ContainsPadded subsection old items → (id : ℕ) (content : List ℕ) (names : List Naming) → new ≡ old ++ subsection_encoding id content ∷ [] → HasEncodableSize content × Unit {0} → name_kind_of id ≡ of_map
    → name_map padded content names → ContainsPadded subsection new (items ++ Map id names ∷ [])
adds_raw_names before id content names e encodable kind encodes = adds_raw_padded names_section.held_padded before (Map id names) e (names_padded id content names kind encodable.0 encodes)

pub adds_raw_names_inside : {old new : List (List ℕ)} {items : List NameItem} → ContainsPadded subsection old items → (id : ℕ) (content : List ℕ) (insides : List Inside) → new ≡ old ++ subsection_encoding id content ∷ [] → HasEncodableSize content × Unit {0} → name_kind_of id ≡ of_indirect
    → indirect_map padded content insides → ContainsPadded subsection new (items ++ Indirect id insides ∷ [])
adds_raw_names_inside before id content insides e encodable kind encodes = adds_raw_padded names_section.held_padded before (Indirect id insides) e (names_inside_padded id content insides kind encodable.0 encodes)

all_flagged : (Is : Symbol → Type 0) (symbols : List Symbol) → All Is symbols → AllByRecursion IsAsFlagged symbols → All (λ x. Is x × IsAsFlagged x) symbols
all_flagged Is symbols given flagged = λ k d l. (given k d l, all_of symbols flagged k d l)
  where
    all_of : (xs : List Symbol) → AllByRecursion IsAsFlagged xs → All IsAsFlagged xs
    all_of [] h = All-nil IsAsFlagged
    all_of (x ∷ xs) h = All-cons IsAsFlagged x xs h.0 (all_of xs h.1)

-- The section gains the symbols of a table, each of which is as its flags say.
pub adds_symbols : {old new entries : List (List ℕ)} {items : List LinkItem} {symbols : List Symbol} → ContainsLinks old items → AreSymbols entries symbols → new ≡ old ++ subsection_encoding 8 (list_encoding (pieces_model.joins entries)) ∷ []
    → AllByRecursion IsAsFlagged symbols → ContainsLinks new (items ++ Symbols symbols ∷ [])
adds_symbols {old = old} {symbols = symbols} before held e flagged =
    adds_item before (Symbols symbols) (e ∙ ap (λ s. old ++ subsection_encoding 8 s ∷ []) (list_vector held))
    (record { count = held.encodable.count; members = all_flagged IsGivenSymbol symbols held.encodable.members flagged })

-- The section gains the architecture of the target.
pub adds_target : {old new : List (List ℕ)} {items : List LinkItem} → ContainsLinks old items → (n : List ℕ) → new ≡ old ++ subsection_encoding 9 (size_prefixed_encoding n) ∷ [] → IsUtf8 n → ContainsLinks new (items ++ Target n ∷ [])
adds_target before n e utf8 = adds_item before (Target n) e utf8

-- The section of an object file gains a subsection whose content is the vector of a list.
adds_vector : {X : Type 0} {encoding : X → List ℕ} {Is : X → Type 0} {old new entries : List (List ℕ)} {items : List LinkItem} {xs : List X} → ContainsObjectLinks old items → (item : LinkItem) (id : ℕ) → link_encoding item ≡ subsection_encoding id (vec_encoding encoding xs)
    → IsListOf encoding Is entries xs → new ≡ old ++ subsection_encoding id (list_encoding (pieces_model.joins entries)) ∷ [] → IsObjectLink item → ContainsObjectLinks new (items ++ item ∷ [])
adds_vector {old = old} before item id is held e plain = adds_item before item (e ∙ ap (λ s. old ++ subsection_encoding id s ∷ []) (list_vector held) ∙ ap (λ s. old ++ s ∷ []) (sym is)) plain

-- The section of an object file gains the segments of a list.
pub adds_segments : {old new entries : List (List ℕ)} {items : List LinkItem} {segments : List SegmentInfo} → ContainsObjectLinks old items → AreSegments entries segments → new ≡ old ++ subsection_encoding 5 (list_encoding (pieces_model.joins entries)) ∷ [] → ContainsObjectLinks new (items ++ Segments segments ∷ [])
adds_segments {segments = segments} before held e = adds_vector before (Segments segments) 5 refl held e held.encodable

-- The section of an object file gains the init functions of a list.
pub adds_inits : {old new entries : List (List ℕ)} {items : List LinkItem} {functions : List InitFunction} → ContainsObjectLinks old items → AreInits entries functions → new ≡ old ++ subsection_encoding 6 (list_encoding (pieces_model.joins entries)) ∷ [] → ContainsObjectLinks new (items ++ InitFunctions functions ∷ [])
adds_inits {functions = functions} before held e = adds_vector before (InitFunctions functions) 6 refl held e held.encodable

-- The section of an object file gains the COMDAT groups of a list.
pub adds_comdats : {old new entries : List (List ℕ)} {items : List LinkItem} {comdats : List Comdat} → ContainsObjectLinks old items → AreComdats entries comdats → new ≡ old ++ subsection_encoding 7 (list_encoding (pieces_model.joins entries)) ∷ [] → ContainsObjectLinks new (items ++ Comdats comdats ∷ [])
adds_comdats {comdats = comdats} before held e = adds_vector before (Comdats comdats) 7 refl held e held.encodable

-- The section of an object file gains the symbols of a table, each of which is as its flags say.
pub adds_object_symbols : {old new entries : List (List ℕ)} {items : List LinkItem} {symbols : List Symbol} → ContainsObjectLinks old items → AreObjectSymbols entries symbols → new ≡ old ++ subsection_encoding 8 (list_encoding (pieces_model.joins entries)) ∷ []
    → AllByRecursion IsAsFlagged symbols → ContainsObjectLinks new (items ++ Symbols symbols ∷ [])
adds_object_symbols {symbols = symbols} before held e flagged =
    adds_vector before (Symbols symbols) 8 refl held e (record { count = held.encodable.count; members = all_flagged IsFullSymbol symbols held.encodable.members flagged })

-- The section of an object file gains the architecture of the target.
pub adds_object_target : {old new : List (List ℕ)} {items : List LinkItem} → ContainsObjectLinks old items → (n : List ℕ) → new ≡ old ++ subsection_encoding 9 (size_prefixed_encoding n) ∷ [] → IsUtf8 n → ContainsObjectLinks new (items ++ Target n ∷ [])
adds_object_target before n e utf8 = adds_item before (Target n) e utf8

-- The section of a dynamic library gains its memory and its table.
pub adds_dylink_memory : {old new : List (List ℕ)} {items : List DylinkItem} → ContainsDylink old items → (memory : DylinkMemory) → new ≡ old ++ subsection_encoding 1 (needs_encoding memory) ∷ [] → AreNeeds memory → ContainsDylink new (items ++ Memory memory ∷ [])
adds_dylink_memory before memory e plain = adds_item before (Memory memory) e plain

-- The section of a dynamic library gains a subsection whose content is the vector of a list.
adds_dylink_list : {X : Type 0} {encoding : X → List ℕ} {Is : X → Type 0} {old new entries : List (List ℕ)} {items : List DylinkItem} {xs : List X} → ContainsDylink old items → (item : DylinkItem) (id : ℕ) → dylink_encoding item ≡ subsection_encoding id (vec_encoding encoding xs)
    → IsListOf encoding Is entries xs → new ≡ old ++ subsection_encoding id (list_encoding (pieces_model.joins entries)) ∷ [] → IsDylink item → ContainsDylink new (items ++ item ∷ [])
adds_dylink_list {old = old} before item id is held e plain = adds_item before item (e ∙ ap (λ s. old ++ subsection_encoding id s ∷ []) (list_vector held) ∙ ap (λ s. old ++ s ∷ []) (sym is)) plain

-- The section of a dynamic library gains the libraries of a list.
pub adds_needed : {old new entries : List (List ℕ)} {items : List DylinkItem} {names : List (List ℕ)} → ContainsDylink old items → AreNames entries names → new ≡ old ++ subsection_encoding 2 (list_encoding (pieces_model.joins entries)) ∷ [] → ContainsDylink new (items ++ Needed names ∷ [])
adds_needed {names = names} before held e = adds_dylink_list before (Needed names) 2 refl held e held.encodable

-- The section of a dynamic library gains the flags of exported symbols.
pub adds_exports_flags : {old new entries : List (List ℕ)} {items : List DylinkItem} {exports : List DylinkExport} → ContainsDylink old items → AreDylinkExports entries exports → new ≡ old ++ subsection_encoding 3 (list_encoding (pieces_model.joins entries)) ∷ [] → ContainsDylink new (items ++ ExportFlags exports ∷ [])
adds_exports_flags {exports = exports} before held e = adds_dylink_list before (ExportFlags exports) 3 refl held e held.encodable

-- The section of a dynamic library gains the flags of imported symbols.
pub adds_imports_flags : {old new entries : List (List ℕ)} {items : List DylinkItem} {imports : List DylinkImport} → ContainsDylink old items → AreDylinkImports entries imports → new ≡ old ++ subsection_encoding 4 (list_encoding (pieces_model.joins entries)) ∷ [] → ContainsDylink new (items ++ ImportFlags imports ∷ [])
adds_imports_flags {imports = imports} before held e = adds_dylink_list before (ImportFlags imports) 4 refl held e held.encodable

-- The section of a dynamic library gains the folders of a list.
pub adds_runtime_path : {old new entries : List (List ℕ)} {items : List DylinkItem} {paths : List (List ℕ)} → ContainsDylink old items → AreNames entries paths → new ≡ old ++ subsection_encoding 5 (list_encoding (pieces_model.joins entries)) ∷ [] → ContainsDylink new (items ++ RuntimePath paths ∷ [])
adds_runtime_path {paths = paths} before held e = adds_dylink_list before (RuntimePath paths) 5 refl held e held.encodable

-- The section gains a field of producers, whose name's length the call has checked.
pub adds_field : {old new entries : List (List ℕ)} {items : List Field} {values : List Producer} → ContainsFields old items → (n : List ℕ) → AreProducers entries values → new ≡ old ++ (size_prefixed_encoding n ++ list_encoding (pieces_model.joins entries)) ∷ [] → HasEncodableSize n × Unit {0} → IsUtf8 n
    → ContainsFields new (items ++ (n, values) ∷ [])
adds_field {old = old} {values = values} before n held e encodable utf8 =
    adds_item before (n, values) (e ∙ ap (λ s. old ++ (size_prefixed_encoding n ++ s) ∷ []) (list_vector held)) ((utf8, encodable.0), held.encodable)

-- The section gains a feature, whose name's length the call has checked.
pub adds_feature : {old new : List (List ℕ)} {items : List Feature} → ContainsFeatures old items → (f : Feature) → new ≡ old ++ (prefix_code f.0 ∷ [] ++ size_prefixed_encoding f.1) ∷ [] → Unit {0} × HasEncodableSize f.1 → IsUtf8 f.1 → ContainsFeatures new (items ++ f ∷ [])
adds_feature before f e encodable utf8 = adds_item before f e (utf8, encodable.1)

-- The section gains a module of a core dump, whose name's length the call has checked.
pub adds_core_module : {old new : List (List ℕ)} {items : List (List ℕ)} → ContainsModules old items → (n : List ℕ) → new ≡ old ++ marked_encoding n ∷ [] → Unit {0} × HasEncodableSize n → IsUtf8 n → ContainsModules new (items ++ n ∷ [])
adds_core_module before n e encodable utf8 = adds_item before n e (utf8, encodable.1)

-- ---- items of iterators

-- Every iterator that is made of the elements yields these items.
pub record GivesItems {U S T : Type 0} (becomes : U → S → Type 0) (gives : S → Option T → S → Type 0) (elements : U) (items : List T) : Type 0 where
  pub given : (it : S) (xs : List T) → becomes elements it → Drains gives it xs → xs ≡ items

-- The iterator of an array has exactly its elements, and yields them in order.
abbrev becomes : {X : Type 0} {n : ℕ} → List X → IntoIter X n → Type 0
becomes {X = X} {n = n} items it =
    (array_into_iter_items it ≡ items) × (length (array_into_iter_items it) ≡ n) × EveryRun (array_steps {A = X} {n = n}) (λ p. ItemsAre p (array_into_iter_items p.from))
    × EveryRun (array_steps_back {A = X} {n = n}) (λ p. ItemsAreReversed p (array_into_iter_items p.from))

-- An array yields its elements.
pub array_gives : {X : Type 0} {n : ℕ} (items : List X) → GivesItems (becomes {n = n}) array_steps items items
array_gives items = record { given = λ it xs made drained. array_items it xs drained ∙ made.0 }

-- A slice whose members are copied yields them.
pub copied_gives : {U X : Type 0} {becomes : U → Copied (Iter X) → Type 0} {elements : U} (items : List X) → ((it : Copied (Iter X)) → becomes elements it → iter_rest (copied_source it) ≡ items)
    → GivesItems becomes (copied_steps iter_steps) elements items
copied_gives items are = record { given = λ it xs made drained. copied_items it xs drained ∙ are it made }

-- A vector by value yields its elements, as many as it reports.
pub vec_gives : {U X Z : Type 0} {becomes : U → VecIter X Z → Type 0} {elements : U} (items : List X) → ((it : VecIter X Z) → becomes elements it → (into_iter_items it ≡ items) × (into_iter_len it ≡ length items))
    → GivesItems becomes (into_iter_steps {X = X} {Z = Z}) elements items
vec_gives items are = record { given = λ it xs made drained. sym (map-id xs) ∙ items_from_drains xs (drained.1.0, drained.1.1, λ w. (drained.0, drained.1.2)) (YieldsList-from_vec items (are it made).0 (are it made).1) }

list_encodable : {X : Type 0} (P : X → Type 0) {given xs : List X} → given ≡ xs → IsEncodableVec (λ x. Unit {0}) given → AllByRecursion P xs → IsEncodableVec P xs
list_encodable {X} P {xs = xs} e encodable are = record { count = subst (λ l. length l ≤ longest) e encodable.count; members = all_of xs are }
  where
    all_of : (xs : List X) → AllByRecursion P xs → All P xs
    all_of [] h = All-nil P
    all_of (x ∷ xs) h = All-cons P x xs h.0 (all_of xs h.1)

-- The section gains a function's hints that an iterator yields. For an array the last premise is
-- `array_gives hs`.
pub adds_hints_of : {U S : Type 0} {becomes : U → S → Type 0} {gives : S → Option BranchHint → S → Type 0} {remaining : S → Count} {elements : U} {old new : List (List ℕ)} {items : List Hints} → ContainsHints old items → (index : ℕ)
    → AddsList pieces_model becomes gives remaining elements (λ h. Unit {0}) (λ xs. unsigned_encoding index ++ vec_encoding hint_encoding xs) old new (Ok (tt {0})) → (hs : List BranchHint) → GivesItems becomes gives elements hs → index < 2 ^ 32 → AllByRecursion IsHint hs
    → ContainsHints new (items ++ (index, hs) ∷ [])
adds_hints_of {old = old} before index added hs are range plain =
    let given = added.ok in
    let same = are.given given.0 given.1 given.2 given.3 in
    adds_item before (index, hs) (given.5 ∙ ap (λ xs. old ++ (unsigned_encoding index ++ vec_encoding hint_encoding xs) ∷ []) same) (range, list_encodable IsHint same given.4 plain)

-- The same for the hints of an array.
pub adds_hints : {n : ℕ} {remaining : IntoIter BranchHint n → Count} {hs : List BranchHint} {old new : List (List ℕ)} {items : List Hints} → ContainsHints old items → (index : ℕ)
    → AddsList pieces_model becomes array_steps remaining hs (λ h. Unit {0}) (λ xs. unsigned_encoding index ++ vec_encoding hint_encoding xs) old new (Ok (tt {0})) → index < 2 ^ 32 → AllByRecursion IsHint hs → ContainsHints new (items ++ (index, hs) ∷ [])
adds_hints {hs = hs} before index added range plain = adds_hints_of before index added hs (array_gives hs) range plain

-- The hints are well-formed if their values fit, and their numbers are in range.
hinted_encodable : {T X : Type 0} (Is : X → Type 0) (encoding : X → List ℕ) (view : T → X) (hs : List (CodeHint T)) → All (λ h. HasEncodableSize (encoding (view h.value))) hs → AllByRecursion (λ h. (h.offset < 2 ^ 32) × Is (view h.value)) hs
    → All (IsHinted Is encoding) (map (hint_as view) hs)
hinted_encodable Is encoding view [] fit plain = All-nil (IsHinted Is encoding)
hinted_encodable {T} Is encoding view (h ∷ hs) fit plain =
    let fits : CodeHint T → Type 0 = λ g. HasEncodableSize (encoding (view g.value)) in
    All-cons (IsHinted Is encoding) (hint_as view h) (map (hint_as view) hs) (record { offset = plain.0.0; value = plain.0.1; fits = All-head fits h hs fit }) (hinted_encodable Is encoding view hs (All-tail fits h hs fit) plain.1)

-- The section gains a function's hints of any values, which an iterator yields.
pub adds_hinted_of : {T X U S : Type 0} {F : Format X} {Is : X → Type 0} {encoding : X → List ℕ} (view : T → X) {becomes : U → S → Type 0} {gives : S → Option (CodeHint T) → S → Type 0} {remaining : S → Count} {elements : U} {old new : List (List ℕ)} {items : List (HintsIn (ℕ × X))}
    → ContainsItems (hinted_items F Is encoding) old items → (index : ℕ)
    → AddsList pieces_model becomes gives remaining elements (λ h. HasEncodableSize (encoding (view h.value))) (λ xs. unsigned_encoding index ++ vec_encoding (λ h. hinted_encoding encoding (h.offset, view h.value)) xs) old new (Ok (tt {0}))
    → (hs : List (CodeHint T)) → GivesItems becomes gives elements hs → index < 2 ^ 32 → AllByRecursion (λ h. (h.offset < 2 ^ 32) × Is (view h.value)) hs → ContainsItems (hinted_items F Is encoding) new (items ++ (index, map (hint_as view) hs) ∷ [])
adds_hinted_of {Is = Is} {encoding = encoding} view {old = old} before index added hs are range plain =
    let given = added.ok in
    let same = are.given given.0 given.1 given.2 given.3 in
    let encodable = subst (IsEncodableVec (λ h. HasEncodableSize (encoding (view h.value)))) same given.4 in
    let number = length-map hs (hint_as view) in
    let viewed = ap₂ (λ n s. unsigned_encoding n ++ s) (sym number) (views_encoded (hinted_encoding encoding) (hint_as view) hs) in
    adds_item before (index, map (hint_as view) hs)
    (given.5 ∙ ap (λ xs. old ++ (unsigned_encoding index ++ vec_encoding (λ h. hinted_encoding encoding (h.offset, view h.value)) xs) ∷ []) same ∙ ap (λ s. old ++ (unsigned_encoding index ++ s) ∷ []) viewed)
    (range, record { count = subst (λ n. n ≤ longest) (sym number) encodable.count; members = hinted_encodable Is encoding view hs encodable.members plain })

-- The same for the hints of an array.
pub adds_hinted : {T X : Type 0} {F : Format X} {Is : X → Type 0} {encoding : X → List ℕ} (view : T → X) {n : ℕ} {remaining : IntoIter (CodeHint T) n → Count} {hs : List (CodeHint T)} {old new : List (List ℕ)} {items : List (HintsIn (ℕ × X))}
    → ContainsItems (hinted_items F Is encoding) old items → (index : ℕ)
    → AddsList pieces_model becomes array_steps remaining hs (λ h. HasEncodableSize (encoding (view h.value))) (λ xs. unsigned_encoding index ++ vec_encoding (λ h. hinted_encoding encoding (h.offset, view h.value)) xs) old new (Ok (tt {0}))
    → index < 2 ^ 32 → AllByRecursion (λ h. (h.offset < 2 ^ 32) × Is (view h.value)) hs → ContainsItems (hinted_items F Is encoding) new (items ++ (index, map (hint_as view) hs) ∷ [])
adds_hinted view {hs = hs} before index added range plain = adds_hinted_of view before index added hs (array_gives hs) range plain

-- The section gains an instance of a core dump, whose memories and globals iterators yield.
pub adds_instance_of : {U S V R : Type 0} {becomes : U → S → Type 0} {gives : S → Option ℕ → S → Type 0} {remaining : S → Count} {first : U} {turns : V → R → Type 0} {hands : R → Option ℕ → R → Type 0} {left : R → Count} {second : V}
    {old new : List (List ℕ)} {items : List Instance} → ContainsInstances old items → (i : Instance)
    → AddsTwoLists pieces_model becomes gives remaining first turns hands left second (λ x. Unit {0}) (λ x. Unit {0}) (λ xs ys. (0x00 ∷ unsigned_encoding i.module_index) ++ (vec_encoding unsigned_encoding xs ++ vec_encoding unsigned_encoding ys)) old new (Ok (tt {0}))
    → GivesItems becomes gives first i.memories → GivesItems turns hands second i.globals → i.module_index < 2 ^ 32 → AllByRecursion (IsUnsignedInRange 32) i.memories → AllByRecursion (IsUnsignedInRange 32) i.globals → ContainsInstances new (items ++ i ∷ [])
adds_instance_of {old = old} before i added are others range memories globals =
    let given = added.ok in
    let same = are.given given.0 given.1 given.4 given.5 in
    let alike = others.given given.2 given.3 given.7 given.8 in
    adds_item before i
    (given.10 ∙ ap₂ (λ xs ys. old ++ ((0x00 ∷ unsigned_encoding i.module_index) ++ (vec_encoding unsigned_encoding xs ++ vec_encoding unsigned_encoding ys)) ∷ []) same alike)
    (record { module_index = range; memories = list_encodable (IsUnsignedInRange 32) same given.6 memories; globals = list_encodable (IsUnsignedInRange 32) alike given.9 globals })

-- The same for memories and globals of arrays.
pub adds_instance : {n m : ℕ} {remaining : IntoIter ℕ n → Count} {left : IntoIter ℕ m → Count} {old new : List (List ℕ)} {items : List Instance} → ContainsInstances old items → (i : Instance)
    → AddsTwoLists pieces_model becomes array_steps remaining i.memories becomes array_steps left i.globals (λ x. Unit {0}) (λ x. Unit {0}) (λ xs ys. (0x00 ∷ unsigned_encoding i.module_index) ++ (vec_encoding unsigned_encoding xs ++ vec_encoding unsigned_encoding ys)) old new (Ok (tt {0}))
    → i.module_index < 2 ^ 32 → AllByRecursion (IsUnsignedInRange 32) i.memories → AllByRecursion (IsUnsignedInRange 32) i.globals → ContainsInstances new (items ++ i ∷ [])
adds_instance before i added range memories globals = adds_instance_of before i added (array_gives i.memories) (array_gives i.globals) range memories globals

-- ---- stacks

pub new_stack : {n : List ℕ} {stack : List ℕ × List (List ℕ)} → stack ≡ (marked_encoding n, []) → IsUtf8 n → SaysStack stack.0 stack.1 (n, [])
new_stack e utf8 = (utf8, ap (λ s. s.0) e, new_section (ap (λ s. s.1) e))

-- The stack gains a frame, whose numbers are in range, and whose locals and operand stack iterators
-- yield.
pub adds_frame_of : {U S V R : Type 0} {becomes : U → S → Type 0} {gives : S → Option CoreDumpValue → S → Type 0} {remaining : S → Count} {first : U} {turns : V → R → Type 0} {hands : R → Option CoreDumpValue → R → Type 0} {left : R → Count} {second : V}
    {old new : List ℕ × List (List ℕ)} {thread : List ℕ} {frames : List StackFrame} → SaysStack old.0 old.1 (thread, frames) → (f : StackFrame)
    → AddsTwoLists pieces_model becomes gives remaining first turns hands left second (λ x. Unit {0}) (λ x. Unit {0})
    (λ xs ys. (0x00 ∷ (unsigned_encoding f.instance ++ (unsigned_encoding f.function ++ unsigned_encoding f.offset))) ++ (vec_encoding value_encoding xs ++ vec_encoding value_encoding ys)) old.1 new.1 (Ok (tt {0}))
    → new.0 ≡ old.0 → GivesItems becomes gives first f.locals → GivesItems turns hands second f.stack → f.instance < 2 ^ 32 → f.function < 2 ^ 32 → f.offset < 2 ^ 32 → AllByRecursion IsValue f.locals → AllByRecursion IsValue f.stack
    → SaysStack new.0 new.1 (thread, frames ++ f ∷ [])
adds_frame_of {old = old} before f added thread are others instance function offset locals stack =
    let given = added.ok in
    let same = are.given given.0 given.1 given.4 given.5 in
    let alike = others.given given.2 given.3 given.7 given.8 in (
      before.0,
      thread ∙ before.1,
      adds_item before.2 f
          (given.10 ∙ ap₂ (λ xs ys. old.1 ++ ((0x00 ∷ (unsigned_encoding f.instance ++ (unsigned_encoding f.function ++ unsigned_encoding f.offset))) ++ (vec_encoding value_encoding xs ++ vec_encoding value_encoding ys)) ∷ []) same alike)
          (record { instance = instance; function = function; offset = offset; locals = list_encodable IsValue same given.6 locals; stack = list_encodable IsValue alike given.9 stack }),
    )

-- The same for locals and stacks of arrays.
pub adds_frame : {n m : ℕ} {remaining : IntoIter CoreDumpValue n → Count} {left : IntoIter CoreDumpValue m → Count} {old new : List ℕ × List (List ℕ)} {thread : List ℕ} {frames : List StackFrame} → SaysStack old.0 old.1 (thread, frames) → (f : StackFrame)
    → AddsTwoLists pieces_model becomes array_steps remaining f.locals becomes array_steps left f.stack (λ x. Unit {0}) (λ x. Unit {0})
    (λ xs ys. (0x00 ∷ (unsigned_encoding f.instance ++ (unsigned_encoding f.function ++ unsigned_encoding f.offset))) ++ (vec_encoding value_encoding xs ++ vec_encoding value_encoding ys)) old.1 new.1 (Ok (tt {0}))
    → new.0 ≡ old.0 → f.instance < 2 ^ 32 → f.function < 2 ^ 32 → f.offset < 2 ^ 32 → AllByRecursion IsValue f.locals → AllByRecursion IsValue f.stack → SaysStack new.0 new.1 (thread, frames ++ f ∷ [])
adds_frame before f added thread instance function offset locals stack = adds_frame_of before f added thread (array_gives f.locals) (array_gives f.stack) instance function offset locals stack

-- ---- relocations

pub new_relocations : {n : List ℕ} {section : ℕ} {made : (List ℕ × List ℕ) × List (List ℕ)} → made ≡ ((relocations_name n, unsigned_encoding section), []) → IsUtf8 (relocations_name n) → section < 2 ^ 32 → SaysRelocations made.0.0 made.0.1 made.1 (relocations_name n, (section, []))
new_relocations e utf8 range = record { named = ap (λ s. s.0.0) e; utf8 = utf8; begins = refl; section = ap (λ s. s.0.1) e; range = range; contains = new_section (ap (λ s. s.1) e) }

-- The section gains a relocation, whose numbers are in range.
pub adds_relocation : {old new : (List ℕ × List ℕ) × List (List ℕ)} {n : List ℕ} {section : ℕ} {relocations : List Relocation} → SaysRelocations old.0.0 old.0.1 old.1 (n, (section, relocations)) → (r : Relocation) → new.1 ≡ old.1 ++ relocation_encoding r ∷ [] → new.0 ≡ old.0
    → IsRelocation r → SaysRelocations new.0.0 new.0.1 new.1 (n, (section, relocations ++ r ∷ []))
adds_relocation before r e same plain = record { named = ap (λ s. s.0) same ∙ before.named; utf8 = before.utf8; begins = before.begins; section = ap (λ s. s.1) same ∙ before.section; range = before.range; contains = adds_item before.contains r e plain }

-- ---- a module and one more section

gains_custom : {X : Type 0} {F : Format X} {Says : X → Type 0} {decodings : List SectionDecoding} {id : ℕ} {old new n : List ℕ} {x : X} → UnambiguousWhole (named_payload n F) → DecodesSections decodings old → (content : List ℕ)
    → DecodesOneMore (NamedPayload n content) id old new → IsEncodableNamed n content → DecodesBack (size_prefixed (named_payload n F)) Says (named_encoding n content) → Says x → DecodesSections (decodings ++ decoding_of id (named_payload n F) x ∷ []) new
gains_custom {F = F} {n = n} {x = x} whole before content more encodable decodes says =
    gains_section {F = named_payload n F} before more (payload-decodes whole) (named_encoding n content) (size_prefixed_encoding n ++ content) refl (named_sized n content (size_prefixed_encoding n ++ content) encodable refl) x (decodes.for_each x says)

pub gains_names : {decodings : List SectionDecoding} {id : ℕ} {old new : List ℕ} {entries : List (List ℕ)} {items : List NameItem} → DecodesSections decodings old
    → DecodesOneMore (NamedPayload name_name (entries_encoding [] false entries)) id old new → IsEncodableNamed name_name (entries_encoding [] false entries) → DecodesBackBoth (size_prefixed name_payload) (ContainsNames entries) (ContainsPadded subsection entries) (named_encoding name_name (entries_encoding [] false entries))
    → ContainsNames entries items → DecodesSections (decodings ++ decoding_of id name_payload items ∷ []) new
gains_names before more encodable decodes contains = gains_custom names_section.whole before _ more encodable decodes.plain contains

pub gains_names_padded : {decodings : List SectionDecoding} {id : ℕ} {old new : List ℕ} {entries : List (List ℕ)} {items : List NameItem} → DecodesSections decodings old
    → DecodesOneMore (NamedPayload name_name (entries_encoding [] false entries)) id old new → IsEncodableNamed name_name (entries_encoding [] false entries) → DecodesBackBoth (size_prefixed name_payload) (ContainsNames entries) (ContainsPadded subsection entries) (named_encoding name_name (entries_encoding [] false entries))
    → ContainsPadded subsection entries items → DecodesSections (decodings ++ padded_decoding_of id name_payload items ∷ []) new
gains_names_padded {entries = entries} {items = items} before more encodable decodes contains =
    let content = entries_encoding [] false entries in
    gains_section_padded {F = name_payload} before more (named_encoding name_name content) (size_prefixed_encoding name_name ++ content) refl (named_sized name_name content (size_prefixed_encoding name_name ++ content) encodable refl) items (decodes.padded.for_each items contains)

pub gains_linking : {decodings : List SectionDecoding} {id : ℕ} {old new : List ℕ} {entries : List (List ℕ)} {items : List LinkItem} → DecodesSections decodings old
    → DecodesOneMore (NamedPayload linking_name (entries_encoding (version ∷ []) false entries)) id old new → IsEncodableNamed linking_name (entries_encoding (version ∷ []) false entries) → DecodesBackBoth (size_prefixed linking_payload) (ContainsLinks entries) (ContainsPadded link entries) (named_encoding linking_name (entries_encoding (version ∷ []) false entries))
    → ContainsLinks entries items → DecodesSections (decodings ++ decoding_of id linking_payload items ∷ []) new
gains_linking before more encodable decodes contains = gains_custom linking_section.whole before _ more encodable decodes.plain contains

pub gains_objects : {decodings : List SectionDecoding} {id : ℕ} {old new : List ℕ} {entries : List (List ℕ)} {items : List LinkItem} → DecodesSections decodings old
    → DecodesOneMore (NamedPayload linking_name (entries_encoding (version ∷ []) false entries)) id old new → IsEncodableNamed linking_name (entries_encoding (version ∷ []) false entries)
    → DecodesBackBoth (size_prefixed object_payload) (ContainsObjectLinks entries) (ContainsPadded full_link entries) (named_encoding linking_name (entries_encoding (version ∷ []) false entries)) → ContainsObjectLinks entries items → DecodesSections (decodings ++ decoding_of id object_payload items ∷ []) new
gains_objects before more encodable decodes contains = gains_custom object_section.whole before _ more encodable decodes.plain contains

pub gains_producers : {decodings : List SectionDecoding} {id : ℕ} {old new : List ℕ} {entries : List (List ℕ)} {items : List Field} → DecodesSections decodings old
    → DecodesOneMore (NamedPayload producers_name (entries_encoding [] true entries)) id old new → IsEncodableNamed producers_name (entries_encoding [] true entries) → DecodesBackBoth (size_prefixed producers_payload) (ContainsFields entries) (ContainsPadded field entries) (named_encoding producers_name (entries_encoding [] true entries))
    → ContainsFields entries items → DecodesSections (decodings ++ decoding_of id producers_payload items ∷ []) new
gains_producers before more encodable decodes contains = gains_custom producers_section.whole before _ more encodable decodes.plain contains

pub gains_dylink : {decodings : List SectionDecoding} {id : ℕ} {old new : List ℕ} {entries : List (List ℕ)} {items : List DylinkItem} → DecodesSections decodings old
    → DecodesOneMore (NamedPayload dylink_name (entries_encoding [] false entries)) id old new → IsEncodableNamed dylink_name (entries_encoding [] false entries) → DecodesBackBoth (size_prefixed dylink_payload) (ContainsDylink entries) (ContainsPadded dylink_item entries) (named_encoding dylink_name (entries_encoding [] false entries))
    → ContainsDylink entries items → DecodesSections (decodings ++ decoding_of id dylink_payload items ∷ []) new
gains_dylink before more encodable decodes contains = gains_custom dylink_section.whole before _ more encodable decodes.plain contains

pub gains_features : {decodings : List SectionDecoding} {id : ℕ} {old new : List ℕ} {entries : List (List ℕ)} {items : List Feature} → DecodesSections decodings old
    → DecodesOneMore (NamedPayload features_name (entries_encoding [] true entries)) id old new → IsEncodableNamed features_name (entries_encoding [] true entries) → DecodesBackBoth (size_prefixed features_payload) (ContainsFeatures entries) (ContainsPadded feature entries) (named_encoding features_name (entries_encoding [] true entries))
    → ContainsFeatures entries items → DecodesSections (decodings ++ decoding_of id features_payload items ∷ []) new
gains_features before more encodable decodes contains = gains_custom features_section.whole before _ more encodable decodes.plain contains

pub gains_hints : {decodings : List SectionDecoding} {id : ℕ} {old new : List ℕ} {entries : List (List ℕ)} {items : List Hints} → DecodesSections decodings old
    → DecodesOneMore (NamedPayload hints_name (entries_encoding [] true entries)) id old new → IsEncodableNamed hints_name (entries_encoding [] true entries) → DecodesBackBoth (size_prefixed hints_payload) (ContainsHints entries) (ContainsPadded hints entries) (named_encoding hints_name (entries_encoding [] true entries))
    → ContainsHints entries items → DecodesSections (decodings ++ decoding_of id hints_payload items ∷ []) new
gains_hints before more encodable decodes contains = gains_custom hints_section.whole before _ more encodable decodes.plain contains

-- The module gains a section of code metadata of any values.
pub gains_hinted : {X : Type 0} {n : List ℕ} {F : Format X} {Is : X → Type 0} {encoding : X → List ℕ} (laws : PayloadLaws n F Is encoding) {decodings : List SectionDecoding} {id : ℕ} {old new : List ℕ} {entries : List (List ℕ)} {items : List (HintsIn (ℕ × X))} → DecodesSections decodings old
    → DecodesOneMore (NamedPayload n (entries_encoding [] true entries)) id old new → IsEncodableNamed n (entries_encoding [] true entries)
    → DecodesBackBoth (size_prefixed (counted_payload n (hints_in (hinted F)))) (ContainsItems (hinted_items F Is encoding) entries) (ContainsPadded (hints_in (hinted F)) entries) (named_encoding n (entries_encoding [] true entries))
    → ContainsItems (hinted_items F Is encoding) entries items → DecodesSections (decodings ++ decoding_of id (counted_payload n (hints_in (hinted F))) items ∷ []) new
gains_hinted laws before more encodable decodes contains = gains_custom (hinted_section laws).whole before _ more encodable decodes.plain contains

pub gains_modules : {decodings : List SectionDecoding} {id : ℕ} {old new : List ℕ} {entries : List (List ℕ)} {items : List (List ℕ)} → DecodesSections decodings old
    → DecodesOneMore (NamedPayload modules_name (entries_encoding [] true entries)) id old new → IsEncodableNamed modules_name (entries_encoding [] true entries) → DecodesBackBoth (size_prefixed modules_payload) (ContainsModules entries) (ContainsPadded marked_name entries) (named_encoding modules_name (entries_encoding [] true entries))
    → ContainsModules entries items → DecodesSections (decodings ++ decoding_of id modules_payload items ∷ []) new
gains_modules before more encodable decodes contains = gains_custom modules_section.whole before _ more encodable decodes.plain contains

pub gains_instances : {decodings : List SectionDecoding} {id : ℕ} {old new : List ℕ} {entries : List (List ℕ)} {items : List Instance} → DecodesSections decodings old
    → DecodesOneMore (NamedPayload instances_name (entries_encoding [] true entries)) id old new → IsEncodableNamed instances_name (entries_encoding [] true entries) → DecodesBackBoth (size_prefixed instances_payload) (ContainsInstances entries) (ContainsPadded instance entries) (named_encoding instances_name (entries_encoding [] true entries))
    → ContainsInstances entries items → DecodesSections (decodings ++ decoding_of id instances_payload items ∷ []) new
gains_instances before more encodable decodes contains = gains_custom instances_section.whole before _ more encodable decodes.plain contains

-- The module gains the process of a core dump, of the name that is the argument.
pub gains_process : {decodings : List SectionDecoding} {id : ℕ} {old new content : List ℕ} → DecodesSections decodings old → DecodesOneMore (NamedPayload core_name content) id old new → IsEncodableNamed core_name content
    → DecodesBack (size_prefixed core_payload) (SaysProcess content) (named_encoding core_name content) → (n : List ℕ) → content ≡ marked_encoding n → IsUtf8 n → DecodesSections (decodings ++ decoding_of id core_payload n ∷ []) new
gains_process before more encodable decodes n e utf8 = gains_custom core_whole before _ more encodable decodes (utf8, e)

-- The module gains the section of a source map.
pub gains_source_map : {decodings : List SectionDecoding} {id : ℕ} {old new url : List ℕ} → DecodesSections decodings old → DecodesOneMore (NamedPayload source_map_name (size_prefixed_encoding url)) id old new → IsEncodableNamed source_map_name (size_prefixed_encoding url)
    → DecodesBack (size_prefixed source_map_payload) (SaysText url) (named_encoding source_map_name (size_prefixed_encoding url)) → IsUtf8 url → DecodesSections (decodings ++ decoding_of id source_map_payload url ∷ []) new
gains_source_map before more encodable decodes utf8 = gains_custom source_map_whole before _ more encodable decodes (utf8, refl)

-- The module gains the section of a file of debug information.
pub gains_debug_file : {decodings : List SectionDecoding} {id : ℕ} {old new path : List ℕ} → DecodesSections decodings old → DecodesOneMore (NamedPayload debug_file_name (size_prefixed_encoding path)) id old new → IsEncodableNamed debug_file_name (size_prefixed_encoding path)
    → DecodesBack (size_prefixed debug_file_payload) (SaysText path) (named_encoding debug_file_name (size_prefixed_encoding path)) → IsUtf8 path → DecodesSections (decodings ++ decoding_of id debug_file_payload path ∷ []) new
gains_debug_file before more encodable decodes utf8 = gains_custom debug_file_whole before _ more encodable decodes (utf8, refl)

-- The module gains the section of a build's identity.
pub gains_build_id : {decodings : List SectionDecoding} {id : ℕ} {old new given : List ℕ} → DecodesSections decodings old → DecodesOneMore (NamedPayload build_id_name (size_prefixed_encoding given)) id old new → IsEncodableNamed build_id_name (size_prefixed_encoding given)
    → DecodesBack (size_prefixed build_id_payload) (λ said. said ≡ given) (named_encoding build_id_name (size_prefixed_encoding given)) → DecodesSections (decodings ++ decoding_of id build_id_payload given ∷ []) new
gains_build_id before more encodable decodes = gains_custom build_id_whole before _ more encodable decodes refl

-- The module gains the stack of a thread.
pub gains_stack : {decodings : List SectionDecoding} {id : ℕ} {old new n : List ℕ} {stack : List ℕ × List (List ℕ)} {frames : List StackFrame} → DecodesSections decodings old
    → DecodesOneMore (NamedPayload stack_name (entries_encoding stack.0 true stack.1)) id old new → IsEncodableNamed stack_name (entries_encoding stack.0 true stack.1)
    → DecodesBack (size_prefixed stack_payload) (SaysStack stack.0 stack.1) (named_encoding stack_name (entries_encoding stack.0 true stack.1)) → SaysStack stack.0 stack.1 (n, frames) → DecodesSections (decodings ++ decoding_of id stack_payload (n, frames) ∷ []) new
gains_stack before more encodable decodes says = gains_custom stack_whole before _ more encodable decodes says

-- The module gains a relocation section.
pub gains_relocations : {decodings : List SectionDecoding} {id : ℕ} {old new : List ℕ} {made : (List ℕ × List ℕ) × List (List ℕ)} {said : Relocations} → DecodesSections decodings old
    → DecodesOneMore (NamedPayload made.0.0 (entries_encoding made.0.1 true made.1)) id old new → IsEncodableNamed made.0.0 (entries_encoding made.0.1 true made.1)
    → DecodesBack (size_prefixed relocations_payload) (SaysRelocations made.0.0 made.0.1 made.1) (named_encoding made.0.0 (entries_encoding made.0.1 true made.1)) → SaysRelocations made.0.0 made.0.1 made.1 said → DecodesSections (decodings ++ decoding_of id relocations_payload said ∷ []) new
gains_relocations {made = made} {said = said} before more encodable decodes says =
    let content = entries_encoding made.0.1 true made.1 in
    gains_section {F = relocations_payload} before more (payload-decodes relocations_whole) (named_encoding made.0.0 content) (size_prefixed_encoding made.0.0 ++ content) refl (named_sized made.0.0 content (size_prefixed_encoding made.0.0 ++ content) encodable refl) said (decodes.for_each said says)

-- The module gains a custom section of a name and data.
pub gains_given : {decodings : List SectionDecoding} {id : ℕ} {old new n content : List ℕ} → DecodesSections decodings old → DecodesOneMore (NamedPayload n content) id old new → IsEncodableNamed n content
    → DecodesBack custom (λ said. IsUtf8 n × (said ≡ (n, content))) (named_encoding n content) → IsUtf8 n → DecodesSections (decodings ++ decoding_of id (pair name any_bytes) (n, content) ∷ []) new
gains_given {n = n} {content = content} before more encodable decodes utf8 =
    gains_section {F = pair name any_bytes} before more custom-payload (named_encoding n content) (size_prefixed_encoding n ++ content) refl (named_sized n content (size_prefixed_encoding n ++ content) encodable refl) (n, content) (decodes.for_each (n, content) (utf8, refl))

-- The module gains raw bytes that are the encoding of a custom section of a name and data.
pub gains_given_raw : {decodings : List SectionDecoding} {id : ℕ} {bytes old new : List ℕ} → DecodesSections decodings old → DecodesOneMore (IsSizePrefixed bytes) id old new → (n content : List ℕ) → bytes ≡ named_encoding n content → IsEncodableNamed n content → IsUtf8 n
    → DecodesSections (decodings ++ decoding_of id (pair name any_bytes) (n, content) ∷ []) new
gains_given_raw {id = id} {old = old} {new = new} before more n content e encodable utf8 =
    let sized = named_sized n content (size_prefixed_encoding n ++ content) encodable refl in
    gains_section {F = pair name any_bytes} before (subst (λ b. DecodesOneMore (IsSizePrefixed b) id old new) e more) custom-payload (named_encoding n content) (size_prefixed_encoding n ++ content) sized sized (n, content)
    ((custom_back n content encodable).for_each (n, content) (utf8, refl))

-- A buffer gains a custom section.
pub encodes_custom : {A X : Type 0} (F : Format X) (Says : X → Type 0) {encoding : List ℕ} {encodable : Type 0} {old new : Vec ℕ A} {result : Result (Unit {0}) Refused} {x : X}
    → Appends encoding encodable old new result → OnOk result (DecodesBack F Says encoding) → Says x → OnOk result (GainsDecoding F x old.items new.items)
encodes_custom F Says {encoding = encoding} {result = Ok u} {x = x} appends decodes says = record { encoding = encoding; added = appends.ok; unique = decodes.for_each x says }
encodes_custom F Says {result = Err e} appends decodes says = tt

-- A buffer gains a custom section of entries.
pub encodes_entries : {A X : Type 0} (F : Format X) (Says SaysPadded : X → Type 0) {encoding : List ℕ} {encodable : Type 0} {old new : Vec ℕ A} {result : Result (Unit {0}) Refused} {x : X}
    → Appends encoding encodable old new result → OnOk result (DecodesBackBoth F Says SaysPadded encoding) → Says x → OnOk result (GainsDecoding F x old.items new.items)
encodes_entries F Says SaysPadded {encoding = encoding} {result = Ok u} {x = x} appends decodes says = record { encoding = encoding; added = appends.ok; unique = decodes.plain.for_each x says }
encodes_entries F Says SaysPadded {result = Err e} appends decodes says = tt

-- ---- rules by which the laws of this crate are proved

-- The laws of each section that calls add items to.
pub ruleset sections = (names_section, linking_section, object_section, producers_section, dylink_section, features_section, hints_section, frequencies_section, orders_section, call_targets_section, modules_section, instances_section)

-- The other unambiguous formats: sections without entries, and the entries of sections.
pub ruleset parts = (kind_unambiguous, relocation_unambiguous, relocation_laws, relocations_unambiguous, core_unambiguous, stack_unambiguous, source_map_unambiguous, debug_file_unambiguous, build_id_unambiguous, custom_unambiguous, subsection_unambiguous, link_unambiguous, symbol_unambiguous, full_link_unambiguous, full_symbol_unambiguous, segment_unambiguous, init_unambiguous, comdat_symbol_unambiguous, comdat_unambiguous, field_unambiguous, prefix_unambiguous, feature_unambiguous, dylink_unambiguous, needs_unambiguous, export_flags_unambiguous, import_flags_unambiguous, hints_unambiguous, marked_unambiguous, instance_unambiguous, stack_frame_unambiguous, value_unambiguous, stack_frame_laws)

-- The payloads of the other sections.
pub ruleset payloads = (payload-decodes, core_whole, stack_whole, relocations_whole, source_map_whole, debug_file_whole, build_id_whole, custom-payload)
