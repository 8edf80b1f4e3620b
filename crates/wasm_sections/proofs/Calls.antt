-- This file proves the effect of each call on core sections: lemmas that a caller's proof cites.
use Rattle.wasm_base.specs.Stores.{StoreModel}
use Rattle.wasm_base.proofs.Words.{◌≡◌, ℕ, ◌^◌, ◌<◌, List, [], ◌∷◌, ◌++◌, map, IsUtf8, Bor, None, Some, Ok, refl, sym, subst, ◌∙◌, arith, length-map, All-map, array_into_iter_items, array_steps}
use Rattle.wasm_base.proofs.Words.{Count, copied_source, copied_steps, iter_rest, iter_steps, All, AllByRecursion, DecodesOneMore, DecodesBack, DecodesBackBoth, ContainsPadded, counted_format, u32}
use Rattle.wasm_base.proofs.Words.{vec, size_prefixed, IsEncodableName, SectionDecoding, decoding_of, DecodesSections, minimal, unsigned_encoding, SectionPayload, IsEncodableSection, section_encoding}
use Rattle.wasm_base.proofs.Words.{size_prefixed_encoding, HasEncodableSize, IsEncodableVec, raw_sized, IsRef, gains_section, adds_item_padded, new_section, adds_item, adds_raw, gains_items}
use Rattle.wasm_base.proofs.Words.{array_items, copied_items, u32-payload, u32_encodes, name_encodes, pair_encodes}
use Rattle.std.specs.declared.array.IntoIter.{IntoIter}
use Rattle.std.specs.declared.iter.Copied.{Copied}
use Rattle.std.specs.declared.slice.Iter.{Iter}
use Rattle.wasm_base.specs.declared.types.RefType.{RefType}
use Rattle.wasm_insn.proofs.Words.{Plain}
use Rattle.wasm_code.proofs.Words.{all_of, expression_encoding, StoresInstructions, StoresPadded}
use Rattle.wasm_sections.specs.{Stored, IsStored, AddsBytes, active_encoding, passive_encoding, DataItem, active, passive, given_active, given_passive, data_item, ContainsSegments, ElementItem}
use Rattle.wasm_sections.specs.{SegmentMode, functions, expressions, AreEncodableElements, IsSegmentMode, settled, settled_encoding, elements_by, stored_by, IsSegment, IsSegmentPadded, element_of}
use Rattle.wasm_sections.specs.{element, ContainsElements, kind_code, ExportItem, export, ContainsExports, global_encoding, IsGlobal, GlobalItem, global_item, ContainsGlobals, ImportItem, alike}
use Rattle.wasm_sections.specs.{import_encoding, IsEncodableImport, IsEntity, import_format, ContainsImports, memory_type, ContainsMemories, ContainsFunctions, table_encoding, IsTable, TableItem}
use Rattle.wasm_sections.specs.{before_init, table_item, ContainsTables, tag_type, ContainsTags}
use Rattle.wasm_sections.specs.declared.memory.MemoryType.{MemoryType}
use Rattle.wasm_sections.specs.declared.table.TableType.{TableType}
use Rattle.wasm_sections.specs.declared.tag.TagType.{TagType}
use Rattle.wasm_sections.specs.declared.import.EntityType.{EntityType}
use Rattle.wasm_sections.proofs.ElementLaws.{stored_same, elements_section}
use Rattle.wasm_base.proofs.SectionLaws.{payloads}
use Rattle.wasm_sections.proofs.FunctionLaws.{functions_section}
use Rattle.wasm_sections.proofs.TableLaws.{table_unambiguous, tables_section}
use Rattle.wasm_sections.proofs.MemoryLaws.{memories_section}
use Rattle.wasm_sections.proofs.GlobalLaws.{global_unambiguous, globals_section}
use Rattle.wasm_sections.proofs.ExportLaws.{exports_section}
use Rattle.wasm_sections.proofs.DataLaws.{segments_section}
use Rattle.wasm_sections.proofs.ImportLaws.{entity_unambiguous, imports_section}
use Rattle.wasm_sections.proofs.TagLaws.{tags_section}
use Rattle.wasm_sections.proofs.NumberLaws.{number_unambiguous}

-- ---- a new section

pub new_functions : {entries : List (List ℕ)} → entries ≡ [] → ContainsFunctions entries []
new_functions e = new_section e

pub new_tables : {entries : List (List ℕ)} → entries ≡ [] → ContainsTables entries []
new_tables e = new_section e

pub new_memories : {entries : List (List ℕ)} → entries ≡ [] → ContainsMemories entries []
new_memories e = new_section e

pub new_globals : {entries : List (List ℕ)} → entries ≡ [] → ContainsGlobals entries []
new_globals e = new_section e

pub new_exports : {entries : List (List ℕ)} → entries ≡ [] → ContainsExports entries []
new_exports e = new_section e

pub new_elements : {entries : List (List ℕ)} → entries ≡ [] → ContainsElements entries []
new_elements e = new_section e

pub new_segments : {entries : List (List ℕ)} → entries ≡ [] → ContainsSegments entries []
new_segments e = new_section e

pub new_imports : {entries : List (List ℕ)} → entries ≡ [] → ContainsImports entries []
new_imports e = new_section e

pub new_tags : {entries : List (List ℕ)} → entries ≡ [] → ContainsTags entries []
new_tags e = new_section e

-- ---- one more item

-- The section gains a table, without an initial value or with one.
pub adds_table : {old new : List (List ℕ)} {items : List TableItem} → ContainsTables old items → (table : TableType) → new ≡ old ++ table_encoding table ∷ [] → IsTable table
    → ContainsTables new (items ++ record { table_type = table; init = None } ∷ [])
adds_table before table e plain = adds_item before (record { table_type = table; init = None }) e (record { table_type = plain; init = tt })

pub adds_table_with_init : {old new : List (List ℕ)} {items : List TableItem} → ContainsTables old items → (table : TableType) (is : List Plain) (bytes : List ℕ) → new ≡ old ++ (before_init ++ (table_encoding table ++ expression_encoding bytes)) ∷ [] → IsTable table
    → StoresInstructions bytes is → ContainsTables new (items ++ record { table_type = table; init = Some is } ∷ [])
adds_table_with_init before table is bytes e plain stored =
    adds_item before (record { table_type = table; init = Some (record { bytes = bytes; instructions = is }) }) e (record { table_type = plain; init = stored })

-- The section gains a global, whose initial value an expression stores.
pub adds_global : {old new : List (List ℕ)} {items : List GlobalItem} → ContainsGlobals old items → (global : GlobalItem) (bytes : List ℕ) → new ≡ old ++ (global_encoding global.global_type ++ expression_encoding bytes) ∷ []
    → IsGlobal global.global_type → StoresInstructions bytes global.init → ContainsGlobals new (items ++ global ∷ [])
adds_global before global bytes e plain stored =
    adds_item before (record { global_type = global.global_type; init = record { bytes = bytes; instructions = global.init } }) e (record { global_type = plain; init = stored })

-- The section gains an export, whose name's length the call has checked.
pub adds_export : {old new : List (List ℕ)} {items : List ExportItem} → ContainsExports old items → (item : ExportItem) → new ≡ old ++ (size_prefixed_encoding item.name ++ (kind_code item.kind ∷ [] ++ unsigned_encoding item.index)) ∷ []
    → HasEncodableSize item.name → IsUtf8 item.name → item.index < 2 ^ 32 → ContainsExports new (items ++ item ∷ [])
adds_export before item e encodable utf8 range =
    let encodes : export minimal (size_prefixed_encoding item.name ++ (kind_code item.kind ∷ [] ++ unsigned_encoding item.index)) item = (
      (item.name, (item.kind, item.index)),
      refl,
      pair_encodes _ _ (size_prefixed_encoding item.name) _ item.name (item.kind, item.index) (name_encodes item.name utf8 encodable)
          (pair_encodes _ u32 (kind_code item.kind ∷ []) (unsigned_encoding item.index) item.kind item.index refl (u32_encodes item.index range)),
    ) in
    adds_raw before item e encodes

-- The section gains an element segment of references, whose expressions are stored.
pub adds_element : {old new : List (List ℕ)} {items : List (ElementItem (List Plain))} → ContainsElements old items → (given : ElementItem Stored) → new ≡ old ++ settled_encoding expression_encoding (settled (stored_by given)) ∷ []
    → IsSegment given → ContainsElements new (items ++ element_of given ∷ [])
adds_element {old = old} {new = new} before given e plain = adds_item before given (subst (λ s. new ≡ old ++ s ∷ []) (sym (stored_same given)) e) plain

-- The section gains an element segment of functions, or of expressions, whose count the call has
-- checked.
pub adds_functions : {old new : List (List ℕ)} {items : List (ElementItem (List Plain))} → ContainsElements old items → (segment_mode : SegmentMode Stored) (indices : List ℕ)
    → new ≡ old ++ settled_encoding expression_encoding (settled (stored_by (record { segment_mode = segment_mode; elements = functions indices }))) ∷ [] → AreEncodableElements {E = List ℕ} (functions indices) → IsSegmentMode segment_mode → AllByRecursion (λ f. f < 2 ^ 32) indices
    → ContainsElements new (items ++ element_of (record { segment_mode = segment_mode; elements = functions indices }) ∷ [])
adds_functions before segment_mode indices e encodable placed are =
    adds_element before (record { segment_mode = segment_mode; elements = functions indices }) e (record { segment_mode = placed; elements = record { count = encodable.count; members = all_of (λ f. f < 2 ^ 32) indices are } })

pub adds_expressions : {old new : List (List ℕ)} {items : List (ElementItem (List Plain))} → ContainsElements old items → (segment_mode : SegmentMode Stored) (ty : RefType) (stored : List Stored)
    → new ≡ old ++ settled_encoding expression_encoding (settled (stored_by (record { segment_mode = segment_mode; elements = expressions ty stored }))) ∷ [] → AreEncodableElements (elements_by (expressions ty stored)) → IsSegmentMode segment_mode → IsRef ty → AllByRecursion IsStored stored
    → ContainsElements new (items ++ element_of (record { segment_mode = segment_mode; elements = expressions ty stored }) ∷ [])
adds_expressions before segment_mode ty stored e encodable placed range are =
    adds_element before (record { segment_mode = segment_mode; elements = expressions ty stored }) e (record { segment_mode = placed; elements = (range, record { count = omega (arith, encodable.count, length-map stored (λ e. e.bytes)); members = all_of IsStored stored are }) })

-- The section gains an active data segment, at an offset that an expression stores, or a passive
-- one.
pub adds_active : {old new : List (List ℕ)} {items : List DataItem} → ContainsSegments old items → (memory : ℕ) (is : List Plain) (offset bytes : List ℕ) → new ≡ old ++ active_encoding memory offset bytes ∷ [] → memory < 2 ^ 32
    → StoresInstructions offset is → ContainsSegments new (items ++ active memory is bytes ∷ [])
adds_active before memory is offset bytes e range stored = adds_item before (given_active memory (record { bytes = offset; instructions = is }) bytes) e (range, stored)

pub adds_passive : {old new : List (List ℕ)} {items : List DataItem} → ContainsSegments old items → (bytes : List ℕ) → new ≡ old ++ passive_encoding bytes ∷ [] → ContainsSegments new (items ++ passive bytes ∷ [])
adds_passive before bytes e = adds_item before (given_passive bytes) e tt

-- The section gains the bytes of an array, or of a slice, which the call copies.
pub array_added : {M U : Type 0} {model : StoreModel M} {n : ℕ} {becomes : U → IntoIter ℕ n → Type 0} {remaining : IntoIter ℕ n → Count} {elements : U} {encoding : List ℕ → List ℕ} {old new : M}
    → AddsBytes model becomes array_steps remaining elements encoding old new (Ok (tt {0})) → (bytes : List ℕ) → ((it : IntoIter ℕ n) → becomes elements it → array_into_iter_items it ≡ bytes) → model.gains (encoding bytes) old new
array_added {model = model} {encoding = encoding} {old = old} {new = new} added bytes are =
    let given = added.ok in
    subst (λ bs. model.gains (encoding bs) old new) (array_items given.0 given.1 given.3 ∙ are given.0 given.2) given.5

pub copied_added : {M U : Type 0} {model : StoreModel M} {becomes : U → Copied (Iter ℕ) → Type 0} {remaining : Copied (Iter ℕ) → Count} {elements : U} {encoding : List ℕ → List ℕ} {old new : M}
    → AddsBytes model becomes (copied_steps iter_steps) remaining elements encoding old new (Ok (tt {0})) → (bytes : List ℕ) → ((it : Copied (Iter ℕ)) → becomes elements it → iter_rest (copied_source it) ≡ bytes) → model.gains (encoding bytes) old new
copied_added {model = model} {encoding = encoding} {old = old} {new = new} added bytes are =
    let given = added.ok in
    subst (λ bs. model.gains (encoding bs) old new) (copied_items given.0 given.1 given.3 ∙ are given.0 given.2) given.5

-- The section gains a group of imports of one type, whose names' lengths the call has checked.
pub adds_alike : {old new : List (List ℕ)} {items : List ImportItem} → ContainsImports old items → (from : List ℕ) (ty : EntityType) (names : List (Bor (List ℕ)))
    → new ≡ old ++ import_encoding (record { module_name = from; imported = alike ty (map (λ n. n.now) names) }) ∷ [] → IsEncodableImport (record { module_name = from; imported = alike ty (map (λ n. n.now) names) })
    → IsUtf8 from → IsEntity ty → All (λ n. IsUtf8 n.now) names → ContainsImports new (items ++ record { module_name = from; imported = alike ty (map (λ n. n.now) names) } ∷ [])
adds_alike before from ty names e encodable utf8 range are =
    let fitting : IsEncodableVec IsEncodableName (map (λ n. n.now) names) = record { count = encodable.1.count; members = both (map (λ n. n.now) names) (All-map IsUtf8 (λ n. n.now) names are) encodable.1.members } in
    adds_item before (record { module_name = from; imported = alike ty (map (λ n. n.now) names) }) e (utf8, (range, fitting))
  where
    both : (xs : List (List ℕ)) → All IsUtf8 xs → All HasEncodableSize xs → All IsEncodableName xs
    both xs h g = λ k d l. (h k d l, g k d l)

-- ---- with padded LEB128

pub adds_table_with_init_padded : {old new : List (List ℕ)} {items : List TableItem} → ContainsPadded table_item old items → (table : TableType) (is : List Plain) (bytes : List ℕ) → new ≡ old ++ (before_init ++ (table_encoding table ++ expression_encoding bytes)) ∷ []
    → IsTable table → StoresPadded bytes is → ContainsPadded table_item new (items ++ record { table_type = table; init = Some is } ∷ [])
adds_table_with_init_padded before table is bytes e plain stored =
    adds_item_padded tables_section.held_padded before (record { table_type = table; init = Some (record { bytes = bytes; instructions = is }) }) e (record { table_type = plain; init = stored })

pub adds_global_padded : {old new : List (List ℕ)} {items : List GlobalItem} → ContainsPadded global_item old items → (global : GlobalItem) (bytes : List ℕ) → new ≡ old ++ (global_encoding global.global_type ++ expression_encoding bytes) ∷ []
    → IsGlobal global.global_type → StoresPadded bytes global.init → ContainsPadded global_item new (items ++ global ∷ [])
adds_global_padded before global bytes e plain stored =
    adds_item_padded globals_section.held_padded before (record { global_type = global.global_type; init = record { bytes = bytes; instructions = global.init } }) e (record { global_type = plain; init = stored })

pub adds_element_padded : {old new : List (List ℕ)} {items : List (ElementItem (List Plain))} → ContainsPadded element old items → (given : ElementItem Stored) → new ≡ old ++ settled_encoding expression_encoding (settled (stored_by given)) ∷ []
    → IsSegmentPadded given → ContainsPadded element new (items ++ element_of given ∷ [])
adds_element_padded {old = old} {new = new} before given e plain = adds_item_padded elements_section.held_padded before given (subst (λ s. new ≡ old ++ s ∷ []) (sym (stored_same given)) e) plain

pub adds_active_padded : {old new : List (List ℕ)} {items : List DataItem} → ContainsPadded data_item old items → (memory : ℕ) (is : List Plain) (offset bytes : List ℕ) → new ≡ old ++ active_encoding memory offset bytes ∷ [] → memory < 2 ^ 32
    → StoresPadded offset is → ContainsPadded data_item new (items ++ active memory is bytes ∷ [])
adds_active_padded before memory is offset bytes e range stored = adds_item_padded segments_section.held_padded before (given_active memory (record { bytes = offset; instructions = is }) bytes) e (range, stored)

-- ---- a module and one more section

pub gains_functions : {decodings : List SectionDecoding} {id : ℕ} {old new : List ℕ} {entries : List (List ℕ)} {items : List ℕ} → DecodesSections decodings old → DecodesOneMore (SectionPayload entries) id old new → IsEncodableSection entries
    → DecodesBackBoth (counted_format u32) (ContainsFunctions entries) (ContainsPadded u32 entries) (section_encoding entries) → ContainsFunctions entries items → DecodesSections (decodings ++ decoding_of id (vec u32) items ∷ []) new
gains_functions before more encodable decodes contains = gains_items (payloads functions_section) before more encodable decodes contains

pub gains_tables : {decodings : List SectionDecoding} {id : ℕ} {old new : List ℕ} {entries : List (List ℕ)} {items : List TableItem} → DecodesSections decodings old → DecodesOneMore (SectionPayload entries) id old new → IsEncodableSection entries
    → DecodesBackBoth (counted_format table_item) (ContainsTables entries) (ContainsPadded table_item entries) (section_encoding entries) → ContainsTables entries items → DecodesSections (decodings ++ decoding_of id (vec table_item) items ∷ []) new
gains_tables before more encodable decodes contains = gains_items (payloads tables_section) before more encodable decodes contains

pub gains_memories : {decodings : List SectionDecoding} {id : ℕ} {old new : List ℕ} {entries : List (List ℕ)} {items : List MemoryType} → DecodesSections decodings old → DecodesOneMore (SectionPayload entries) id old new → IsEncodableSection entries
    → DecodesBackBoth (counted_format memory_type) (ContainsMemories entries) (ContainsPadded memory_type entries) (section_encoding entries) → ContainsMemories entries items → DecodesSections (decodings ++ decoding_of id (vec memory_type) items ∷ []) new
gains_memories before more encodable decodes contains = gains_items (payloads memories_section) before more encodable decodes contains

pub gains_globals : {decodings : List SectionDecoding} {id : ℕ} {old new : List ℕ} {entries : List (List ℕ)} {items : List GlobalItem} → DecodesSections decodings old → DecodesOneMore (SectionPayload entries) id old new → IsEncodableSection entries
    → DecodesBackBoth (counted_format global_item) (ContainsGlobals entries) (ContainsPadded global_item entries) (section_encoding entries) → ContainsGlobals entries items → DecodesSections (decodings ++ decoding_of id (vec global_item) items ∷ []) new
gains_globals before more encodable decodes contains = gains_items (payloads globals_section) before more encodable decodes contains

pub gains_exports : {decodings : List SectionDecoding} {id : ℕ} {old new : List ℕ} {entries : List (List ℕ)} {items : List ExportItem} → DecodesSections decodings old → DecodesOneMore (SectionPayload entries) id old new → IsEncodableSection entries
    → DecodesBackBoth (counted_format export) (ContainsExports entries) (ContainsPadded export entries) (section_encoding entries) → ContainsExports entries items → DecodesSections (decodings ++ decoding_of id (vec export) items ∷ []) new
gains_exports before more encodable decodes contains = gains_items (payloads exports_section) before more encodable decodes contains

pub gains_elements : {decodings : List SectionDecoding} {id : ℕ} {old new : List ℕ} {entries : List (List ℕ)} {items : List (ElementItem (List Plain))} → DecodesSections decodings old → DecodesOneMore (SectionPayload entries) id old new → IsEncodableSection entries
    → DecodesBackBoth (counted_format element) (ContainsElements entries) (ContainsPadded element entries) (section_encoding entries) → ContainsElements entries items → DecodesSections (decodings ++ decoding_of id (vec element) items ∷ []) new
gains_elements before more encodable decodes contains = gains_items (payloads elements_section) before more encodable decodes contains

pub gains_segments : {decodings : List SectionDecoding} {id : ℕ} {old new : List ℕ} {entries : List (List ℕ)} {items : List DataItem} → DecodesSections decodings old → DecodesOneMore (SectionPayload entries) id old new → IsEncodableSection entries
    → DecodesBackBoth (counted_format data_item) (ContainsSegments entries) (ContainsPadded data_item entries) (section_encoding entries) → ContainsSegments entries items → DecodesSections (decodings ++ decoding_of id (vec data_item) items ∷ []) new
gains_segments before more encodable decodes contains = gains_items (payloads segments_section) before more encodable decodes contains

pub gains_imports : {decodings : List SectionDecoding} {id : ℕ} {old new : List ℕ} {entries : List (List ℕ)} {items : List ImportItem} → DecodesSections decodings old → DecodesOneMore (SectionPayload entries) id old new → IsEncodableSection entries
    → DecodesBackBoth (counted_format import_format) (ContainsImports entries) (ContainsPadded import_format entries) (section_encoding entries) → ContainsImports entries items → DecodesSections (decodings ++ decoding_of id (vec import_format) items ∷ []) new
gains_imports before more encodable decodes contains = gains_items (payloads imports_section) before more encodable decodes contains

pub gains_tags : {decodings : List SectionDecoding} {id : ℕ} {old new : List ℕ} {entries : List (List ℕ)} {items : List TagType} → DecodesSections decodings old → DecodesOneMore (SectionPayload entries) id old new → IsEncodableSection entries
    → DecodesBackBoth (counted_format tag_type) (ContainsTags entries) (ContainsPadded tag_type entries) (section_encoding entries) → ContainsTags entries items → DecodesSections (decodings ++ decoding_of id (vec tag_type) items ∷ []) new
gains_tags before more encodable decodes contains = gains_items (payloads tags_section) before more encodable decodes contains

-- The module gains a section of one number: the start function, the number of data segments.
pub gains_number : {decodings : List SectionDecoding} {id number : ℕ} {old new : List ℕ} → DecodesSections decodings old → DecodesOneMore (λ payload. payload ≡ unsigned_encoding number) id old new → HasEncodableSize (unsigned_encoding number)
    → DecodesBack (size_prefixed u32) (λ said. said ≡ number) (size_prefixed_encoding (unsigned_encoding number)) → DecodesSections (decodings ++ decoding_of id u32 number ∷ []) new
gains_number {number = number} before more encodable decodes =
    gains_section {F = u32} before more u32-payload (size_prefixed_encoding (unsigned_encoding number)) (unsigned_encoding number) refl (raw_sized (unsigned_encoding number) (unsigned_encoding number) encodable refl) number (decodes.for_each number refl)

-- ---- the promises of functions named in `laws`

pub ruleset sections = (functions_section, tables_section, memories_section, globals_section, exports_section, elements_section, segments_section, imports_section, tags_section)

pub ruleset parts = (entity_unambiguous, table_unambiguous, global_unambiguous, number_unambiguous)
