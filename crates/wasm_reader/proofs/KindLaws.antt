-- This file proves the laws of the kinds of sections: their decoding, their encoding, and their ids
-- and names.
use Rattle.wasm_base.proofs.Words.{Mode, ◌≡◌, ℕ, List, [], ◌++◌, map, length, refl, sym, ap, subst, ◌∙◌, ◌≢◌, ◌∷◌, Bool, true, false, if◌then◌else◌, cond, Option, Some, Result, Ok, Err, map-id}
use Rattle.wasm_base.proofs.Words.{standard_minimal, standard, u32, name, any_bytes, pair, vec, size_prefixed, Format, mapped, UnambiguousWhole, Decodes, Rejects, vec_encoding, IsEncodableVec, name_unambiguous}
use Rattle.wasm_base.proofs.Words.{vec_unambiguous, whole_from_unique, IsInjective, mapped_whole, pair_whole, any_bytes_whole, u32_unambiguous, decodes_same, AppendsMinimal, Grammar, padded_of, both_grammars, encoding_appended, pair_appended}
use Rattle.wasm_base.proofs.Words.{mapped_appended, records_appended, RejectsWhole, bytes_eq, ne_eqb}
use Rattle.wasm_base.proofs.Words.{All, All-nil, All-cons, HasEncoding, members, coded, mapped_encoded, members_encoded, counted_encodable, left_encoded, name_encodable}
use Rattle.wasm_base.proofs.DecodedValues.{viewed_encodable}
use Rattle.std.proofs.Common.{None, ◌≤◌, IfOk}
use Rattle.std.proofs.lemmas.Option.{slice_get_past}
use Rattle.wasm_base.specs.Faults.{Failure}
use Rattle.wasm_base.specs.declared.refused.Refused.{Refused}
use Rattle.wasm_base.specs.declared.refused.Refused.TheVariants.{TooLong}
use Rattle.wasm_code.proofs.Words.{body, size_prefixed_body_unambiguous}
use Rattle.wasm_sections.proofs.Words.{data_item, element, global_item, import_format, table_item, IsEncodableExport, export_encoding, item_of, export, memory_encoding, memory_type, tag_encoding}
use Rattle.wasm_sections.proofs.Words.{tag_type, exports_section, memories_section, tags_section, segments_section, elements_section}
use Rattle.wasm_sections.proofs.Words.{globals_section, imports_section, tables_section, functions_section}
use Rattle.wasm_sections.specs.Exports.{kind_code}
use Rattle.wasm_sections.specs.declared.export.Export.{Export}
use Rattle.wasm_sections.specs.declared.memory.MemoryType.{MemoryType}
use Rattle.wasm_sections.specs.declared.tag.TagType.{TagType}
use Rattle.wasm_sections.proofs.WalkItems.{export_canonical, memory_canonical, tag_canonical}
use Rattle.wasm_types.proofs.Words.{type_item, types_section}
-- begin: written by tools/kinds
use Rattle.wasm_custom.proofs.Words.{names_section, name_name, linking_section, linking_name, producers_section, producers_name, hints_section, hints_name, core_whole, core_name, modules_section}
use Rattle.wasm_custom.proofs.Words.{modules_name, instances_section, instances_name, stack_whole, stack_name, features_section, features_name, source_map_whole, source_map_name, debug_file_whole}
use Rattle.wasm_custom.proofs.Words.{debug_file_name, build_id_whole, build_id_name, dylink_section, dylink_name, relocations_whole, frequencies_section, frequencies_name, orders_section, orders_name}
use Rattle.wasm_custom.proofs.Words.{call_targets_section, call_targets_name}
use Rattle.wasm_reader.specs.{Bodies, Segments, DataCount, Elements, Exports, Functions, Globals, Imports, Memories, Start, Tables, Tags, Names, Linking, Producers, Hints, Core, CoreModules}
use Rattle.wasm_reader.specs.{CoreInstances, CoreStack, Custom, Raw, Types, TargetFeatures, SourceMappingUrl, ExternalDebugInfo, BuildId, Dylink, Relocations, InstructionFrequencies, CompilationOrders}
use Rattle.wasm_reader.specs.{CallTargets}
-- end: written by tools/kinds
use Rattle.wasm_custom.proofs.Words.{named_payload, begins_with, relocations_prefix}
use Rattle.wasm_reader.specs.{Contents, Bodies, Segments, DataCount, Elements, Exports, Functions, Globals, Imports, Memories, Start, Tables, Tags, Types, Names, Linking, Producers, Hints, Core}
use Rattle.wasm_reader.specs.{Contents, content, grammars_of, kind_in, number_in}
use Rattle.wasm_reader.specs.{kind_among, known_kinds, kind_of_id, kind_among_names, known_names, kind_named, kinds_in_order, kind_numbered}
use Rattle.wasm_reader.specs.declared.kinds.SectionKind.{SectionKind}
use Rattle.wasm_reader.specs.declared.kinds.SectionKind.TheVariants as kinds

-- ---- what a kind owes

-- The content of sections of a kind: the format of their payloads, and the content that a value of
-- the format is. Different values are different content, and the format is unambiguous.
pub record Row (kind : SectionKind) : Type 1 where
  pub X : Type 0
  pub F : Format X
  pub make : X → Contents
  pub is : content kind ≡ mapped make F
  pub one : IsInjective make
  pub whole : UnambiguousWhole F

abbrev of : {kind : SectionKind} {X : Type 0} {F : Format X} (make : X → Contents) → content kind ≡ mapped make F → IsInjective make → UnambiguousWhole F → Row kind
of {X = X} {F = F} make is one whole = record { X = X; F = F; make = make; is = is; one = one; whole = whole }

abbrev pub row : (kind : SectionKind) → Row kind
-- begin: written by tools/kinds
row kinds.Bodies = of Bodies refl (λ x y e. cc) (whole_from_unique (vec_unambiguous size_prefixed_body_unambiguous))
row kinds.Segments = of Segments refl (λ x y e. cc) segments_section.whole
row kinds.DataCount = of DataCount refl (λ x y e. cc) (whole_from_unique u32_unambiguous)
row kinds.Elements = of Elements refl (λ x y e. cc) elements_section.whole
row kinds.Exports = of Exports refl (λ x y e. cc) exports_section.whole
row kinds.Functions = of Functions refl (λ x y e. cc) functions_section.whole
row kinds.Globals = of Globals refl (λ x y e. cc) globals_section.whole
row kinds.Imports = of Imports refl (λ x y e. cc) imports_section.whole
row kinds.Memories = of Memories refl (λ x y e. cc) memories_section.whole
row kinds.Start = of Start refl (λ x y e. cc) (whole_from_unique u32_unambiguous)
row kinds.Tables = of Tables refl (λ x y e. cc) tables_section.whole
row kinds.Tags = of Tags refl (λ x y e. cc) tags_section.whole
row kinds.Names = of Names refl (λ x y e. cc) names_section.whole
row kinds.Linking = of Linking refl (λ x y e. cc) linking_section.whole
row kinds.Producers = of Producers refl (λ x y e. cc) producers_section.whole
row kinds.Hints = of Hints refl (λ x y e. cc) hints_section.whole
row kinds.Core = of Core refl (λ x y e. cc) core_whole
row kinds.CoreModules = of CoreModules refl (λ x y e. cc) modules_section.whole
row kinds.CoreInstances = of CoreInstances refl (λ x y e. cc) instances_section.whole
row kinds.CoreStack = of CoreStack refl (λ x y e. cc) stack_whole
row kinds.Custom = of Custom refl (λ x y e. cc) (pair_whole name_unambiguous any_bytes_whole)
row kinds.Raw = of Raw refl (λ x y e. cc) any_bytes_whole
row kinds.Types = of Types refl (λ x y e. cc) types_section.whole
row kinds.TargetFeatures = of TargetFeatures refl (λ x y e. cc) features_section.whole
row kinds.SourceMappingUrl = of SourceMappingUrl refl (λ x y e. cc) source_map_whole
row kinds.ExternalDebugInfo = of ExternalDebugInfo refl (λ x y e. cc) debug_file_whole
row kinds.BuildId = of BuildId refl (λ x y e. cc) build_id_whole
row kinds.Dylink = of Dylink refl (λ x y e. cc) dylink_section.whole
row kinds.Relocations = of Relocations refl (λ x y e. cc) relocations_whole
row kinds.InstructionFrequencies = of InstructionFrequencies refl (λ x y e. cc) frequencies_section.whole
row kinds.CompilationOrders = of CompilationOrders refl (λ x y e. cc) orders_section.whole
row kinds.CallTargets = of CallTargets refl (λ x y e. cc) call_targets_section.whole

-- end: written by tools/kinds

pub content_whole : (kind : SectionKind) → UnambiguousWhole (content kind)
content_whole kind =
    let r = row kind in
    subst UnambiguousWhole (sym r.is) (mapped_whole r.make r.one r.whole)

-- The content that a kind decodes to is of that kind.
pub kind_is : (m : Mode) (kind : SectionKind) (s : List ℕ) (x : Contents) → content kind m s x → kind_in x ≡ kind
kind_is m kinds.Bodies s x h = sym (ap kind_in h.1)
kind_is m kind s x h = sym (ap kind_in h.1)

-- ---- the encoding of each kind

-- The buffer gains the minimal encoding of these items, as one value of the format of their kind.
pub items_appended : (c : Contents) (x : (row (kind_in c)).X) (old new : List ℕ) → c ≡ (row (kind_in c)).make x → AppendsMinimal (grammars_of (kind_in c)) (row (kind_in c)).F x old new → AppendsMinimal (grammars_of (kind_in c)) (content (kind_in c)) c old new
items_appended c x old new e a =
    let r = row (kind_in c) in
    subst (λ z. AppendsMinimal (grammars_of (kind_in c)) (content (kind_in c)) z old new) (sym e)
    (subst (λ G. AppendsMinimal (grammars_of (kind_in c)) G (r.make x) old new) (sym r.is) (mapped_appended r.make r.F x old new (λ z k. r.one z x k) a))

pub exports_appended : (es : List Export) (old new : List ℕ) → IsEncodableVec IsEncodableExport es → new ≡ old ++ vec_encoding export_encoding es → AppendsMinimal both_grammars (content kinds.Exports) (Exports (map item_of es)) old new
exports_appended es old new encodable e = mapped_appended Exports (vec export) (map item_of es) old new (λ z k. cc k) (records_appended export item_of export_encoding IsEncodableExport es old new (λ x f w q s h. export_canonical.minimal_in w s x h) encodable e)

pub functions_appended : (ns : List ℕ) (old new : List ℕ) → AppendsMinimal both_grammars (vec u32) (map (λ n. n) ns) old new → AppendsMinimal both_grammars (content kinds.Functions) (Functions ns) old new
functions_appended ns old new a = mapped_appended Functions (vec u32) ns old new (λ z e. cc e) (subst (λ z. AppendsMinimal both_grammars (vec u32) z old new) (map-id ns) a)

pub memories_appended : (ms : List MemoryType) (old new : List ℕ) → IsEncodableVec (λ m. Unit {0}) ms → new ≡ old ++ vec_encoding memory_encoding ms → AppendsMinimal both_grammars (content kinds.Memories) (Memories ms) old new
memories_appended ms old new encodable e =
    mapped_appended Memories (vec memory_type) ms old new (λ z k. cc k)
    (subst (λ z. AppendsMinimal both_grammars (vec memory_type) z old new) (map-id ms) (records_appended memory_type (λ m. m) memory_encoding (λ m. Unit {0}) ms old new (λ m f w q s h. memory_canonical.minimal_in w s m h) encodable e))

pub tags_appended : (ts : List TagType) (old new : List ℕ) → IsEncodableVec (λ t. Unit {0}) ts → new ≡ old ++ vec_encoding tag_encoding ts → AppendsMinimal both_grammars (content kinds.Tags) (Tags ts) old new
tags_appended ts old new encodable e =
    mapped_appended Tags (vec tag_type) ts old new (λ z k. cc k)
    (subst (λ z. AppendsMinimal both_grammars (vec tag_type) z old new) (map-id ts) (records_appended tag_type (λ t. t) tag_encoding (λ t. Unit {0}) ts old new (λ t f w q s h. tag_canonical.minimal_in w s t h) encodable e))

pub custom_appended : (n bytes old middle new : List ℕ) → AppendsMinimal both_grammars name n old middle → new ≡ middle ++ bytes → AppendsMinimal both_grammars (content kinds.Custom) (Custom (n, bytes)) old new
custom_appended n bytes old middle new a e = mapped_appended Custom (pair name any_bytes) (n, bytes) old new (λ z k. cc k) (pair_appended name any_bytes a (encoding_appended any_bytes bytes bytes middle new (λ w q s h. refl) e))

pub raw_appended : (bytes old new : List ℕ) → new ≡ old ++ bytes → AppendsMinimal both_grammars (content kinds.Raw) (Raw bytes) old new
raw_appended bytes old new e = mapped_appended Raw any_bytes bytes old new (λ z k. cc k) (encoding_appended any_bytes bytes bytes old new (λ w q s h. refl) e)

-- ---- the errors of each kind

-- The call does not return `TooLong` if some bytes encode these items, as one value of the format
-- of their kind.
pub items_fit : (c : Contents) (x : (row (kind_in c)).X) (r : Result (Unit {0}) Refused) → c ≡ (row (kind_in c)).make x → (HasEncoding (grammars_of (kind_in c)) (row (kind_in c)).F x → r ≢ Err TooLong) → HasEncoding (grammars_of (kind_in c)) (content (kind_in c)) c → r ≢ Err TooLong
items_fit c x r e fits h =
    let k = row (kind_in c) in
    fits (mapped_encoded k.make k.F x (λ z i. k.one z x i) (subst (λ G. HasEncoding (grammars_of (kind_in c)) G (k.make x)) k.is (subst (λ z. HasEncoding (grammars_of (kind_in c)) (content (kind_in c)) z) e h)))

-- Each member of a list that has an encoding has a property that each decoded member has.
each_encodable : {T X : Type 0} (F : Format X) (w : Grammar) (view : T → X) (P : T → Type 0) → ((x : T) (s : List ℕ) → F (padded_of w) s (view x) → P x) → (xs : List T) (s : List ℕ) → members F (padded_of w) s (map view xs) → All P xs
each_encodable F w view P each [] s h = All-nil P
each_encodable F w view P each (x ∷ xs) s h = All-cons P x xs (each x h.0 h.3) (each_encodable F w view P each xs h.1 h.4)

all_units : {T : Type 0} (xs : List T) → All (λ x. Unit {0}) xs
all_units [] = All-nil (λ x. Unit {0})
all_units (x ∷ xs) = All-cons (λ x. Unit {0}) x xs tt (all_units xs)

export_fits : (w : Grammar) (e : Export) (s : List ℕ) → export (padded_of w) s (item_of e) → IsEncodableExport e
export_fits w e s h = name_encodable e.name.now (left_encoded name _ e.name.now (h.0.1) (subst (λ z. HasEncoding both_grammars (pair name (pair (coded kind_code) u32)) (z, h.0.1)) (ap (λ i. i.name) h.1) (record { grammar = w; included = tt; bytes = s; decoded = h.2 })))

pub exports_fit : (es : List Export) → HasEncoding both_grammars (content kinds.Exports) (Exports (map item_of es)) → IsEncodableVec IsEncodableExport es
exports_fit es h =
    let k : HasEncoding both_grammars (vec export) (map item_of es) = mapped_encoded Exports (vec export) (map item_of es) (λ z e. cc e) h in
    let m = members_encoded export (map item_of es) k in
    record { count = viewed_encodable export item_of es k; members = each_encodable export m.grammar item_of IsEncodableExport (export_fits m.grammar) es m.bytes m.decoded }

pub functions_fit : (ns : List ℕ) → HasEncoding both_grammars (content kinds.Functions) (Functions ns) → HasEncoding both_grammars (vec u32) (map (λ n. n) ns)
functions_fit ns h = subst (λ z. HasEncoding both_grammars (vec u32) z) (sym (map-id ns)) (mapped_encoded Functions (vec u32) ns (λ z e. cc e) h)

pub memories_fit : (ms : List MemoryType) → HasEncoding both_grammars (content kinds.Memories) (Memories ms) → IsEncodableVec (λ m. Unit {0}) ms
memories_fit ms h = record { count = counted_encodable memory_type ms (mapped_encoded Memories (vec memory_type) ms (λ z e. cc e) h); members = all_units ms }

pub tags_fit : (ts : List TagType) → HasEncoding both_grammars (content kinds.Tags) (Tags ts) → IsEncodableVec (λ t. Unit {0}) ts
tags_fit ts h = record { count = counted_encodable tag_type ts (mapped_encoded Tags (vec tag_type) ts (λ z e. cc e) h); members = all_units ts }

pub custom_fits : (n bytes : List ℕ) → HasEncoding both_grammars (content kinds.Custom) (Custom (n, bytes)) → HasEncoding both_grammars name n
custom_fits n bytes h = left_encoded name any_bytes n bytes (mapped_encoded Custom (pair name any_bytes) (n, bytes) (λ z e. cc e) h)

-- ---- the decoding of each kind

-- If the format of a kind decodes the whole bytes, a section of the kind decodes to that content. If
-- it decodes nothing, neither does the kind.
pub reads : (kind k : SectionKind) (x : (row k).X) (c : Contents) (m : Mode) (bytes : List ℕ) → kind ≡ k → c ≡ (row k).make x → (row k).F m bytes x → content kind m bytes c
reads kind k x c m bytes e is h = subst (λ z. content z m bytes c) (sym e) (subst (λ G. G m bytes c) (sym (row k).is) (x, sym is, h))

pub rejects : (kind k : SectionKind) (m : Mode) (bytes : List ℕ) → kind ≡ k → RejectsWhole (row k).F m bytes → RejectsWhole (content kind) m bytes
rejects kind k m bytes e n = subst (λ z. RejectsWhole (content z) m bytes) (sym e) (subst (λ G. RejectsWhole G m bytes) (sym (row k).is) (record { none = λ y h. n.none h.0 h.2 }))

pub custom_read : (m : Mode) (kind : SectionKind) (bytes : List ℕ) → kind ≡ kinds.Custom → (Rejects name m bytes → RejectsWhole (content kind) m bytes) × ((encoding rest : List ℕ) → Decodes name m bytes encoding rest → content kind m bytes (Custom (encoding, rest)))
custom_read m kind bytes e = (
  λ n. rejects kind kinds.Custom m bytes e (record { none = λ y s. n.none y.0 s.back (record { front = s.front; split = s.joined; encodes = s.first }) }),
  λ encoding rest h. reads kind kinds.Custom (encoding, rest) (Custom (encoding, rest)) m bytes e refl (record { front = h.front; back = rest; joined = h.split; first = h.encodes; second = refl }),
)

pub raw_read : (m : Mode) (bytes : List ℕ) → content kinds.Raw m bytes (Raw bytes)
raw_read m bytes = (bytes, refl, refl)

pub ruleset content_steps = (reads, rejects, custom_read, raw_read)

-- ---- numbers of kinds

-- begin: written by tools/kinds
pub no_kind : (n : ℕ) → 32 ≤ n → None ≡ kind_numbered n
no_kind n past = sym (slice_get_past kinds_in_order n past)

-- end: written by tools/kinds

-- ---- kinds of ids and names

abbrev IsUnknown : List (ℕ × SectionKind) → ℕ → Type 0
IsUnknown [] id = Unit {0}
IsUnknown (k ∷ ks) id = (id ≢ k.0) × IsUnknown ks id

pub unknown_kind : (ks : List (ℕ × SectionKind)) (id : ℕ) → IsUnknown ks id → kinds.Raw ≡ kind_among ks id
unknown_kind [] id h = refl
unknown_kind (k ∷ ks) id h = unknown_kind ks id h.1 ∙ ap (λ t. cond t k.1 (kind_among ks id)) (sym (ne_eqb id k.0 h.0))

pub raw_kind : (id : ℕ) → id ≢ 0 → id ≢ 2 → id ≢ 3 → id ≢ 4 → id ≢ 5 → id ≢ 6 → id ≢ 7 → id ≢ 8 → id ≢ 9 → id ≢ 10 → id ≢ 11 → id ≢ 12 → id ≢ 13 → kinds.Raw ≡ kind_of_id id
raw_kind id a b c d e f g h i j k l m = unknown_kind known_kinds id (a, (b, (c, (d, (e, (f, (g, (h, (i, (j, (k, (l, (m, tt)))))))))))))

pub ruleset kind_steps = (raw_kind)

for_if : (P : SectionKind → Type 0) (b : Bool) {x y : SectionKind} → P x → P y → P (if b then x else y)
for_if P true p q = p
for_if P false p q = q

-- The minimal encoding of a section in the standard's grammar begins with the same name as any of
-- its encodings.
abbrev pub KeepsName : List ℕ → SectionKind → Type 0
KeepsName n kind = (s t rest : List ℕ) (x : Contents) → content kind standard s x → content kind standard_minimal t x → Decodes name standard s n rest → (last : List ℕ) × Decodes name standard t n last

named_front : {X : Type 0} (m : List ℕ) (F : Format X) (s t rest n : List ℕ) (x y : X) → named_payload m F standard s x → named_payload m F standard_minimal t y → Decodes name standard s n rest → (last : List ℕ) × Decodes name standard t n last
named_front m F s t rest n x y h g r =
    let a = h.2 in
    let b = g.2 in
    let same : n ≡ m = (decodes_same name_unambiguous r (record { front = a.front; split = a.joined; encodes = a.first })).0 in
    (b.back, subst (λ z. Decodes name standard t z b.back) (sym same) (record { front = b.front; split = b.joined; encodes = name_unambiguous.encodings.included standard_minimal standard tt b.front m b.first }))

named_kept : {X : Type 0} (f : X → Contents) (m : List ℕ) {F : Format X} (kind : SectionKind) → content kind ≡ mapped f (named_payload m F) → (n : List ℕ) → KeepsName n kind
named_kept f m {F} kind is n s t rest x h g r =
    let a = subst (λ G. G standard s x) is h in
    let b = subst (λ G. G standard_minimal t x) is g in
    named_front m F s t rest n a.0 b.0 a.2 b.2 r

custom_kept : (n : List ℕ) → KeepsName n kinds.Custom
custom_kept n s t rest x h g r =
    let a = h.2 in
    let b = g.2 in
    let same : n ≡ h.0.0 = (decodes_same name_unambiguous r (record { front = a.front; split = a.joined; encodes = a.first })).0 in
    let same_key : h.0 ≡ g.0 = cc (h.1 ∙ sym g.1) in
    (b.back, subst (λ z. Decodes name standard t z b.back) (sym (same ∙ ap (λ z. z.0) same_key)) (record { front = b.front; split = b.joined; encodes = name_unambiguous.encodings.included standard_minimal standard tt b.front g.0.0 b.first }))

relocations_kept : (n : List ℕ) → KeepsName n kinds.Relocations
relocations_kept n s t rest x h g r =
    let a = h.2 in
    let b = g.2 in
    let same : n ≡ h.0.0 = (decodes_same name_unambiguous r (record { front = a.front; split = a.joined; encodes = a.first.0 })).0 in
    let same_key : h.0 ≡ g.0 = cc (h.1 ∙ sym g.1) in
    (b.back, subst (λ z. Decodes name standard t z b.back) (sym (same ∙ ap (λ z. z.0) same_key)) (record { front = b.front; split = b.joined; encodes = name_unambiguous.encodings.included standard_minimal standard tt b.front g.0.0 b.first.0 }))

-- Each of the kinds keeps each name.
abbrev AllKeepNames : List (List ℕ × SectionKind) → Type 0
AllKeepNames [] = Unit {0}
AllKeepNames (k ∷ ks) = ((n : List ℕ) → KeepsName n k.1) × AllKeepNames ks

kept_among : (ks : List (List ℕ × SectionKind)) → AllKeepNames ks → (n : List ℕ) → KeepsName n (kind_among_names ks n)
kept_among [] h n = custom_kept n
kept_among (k ∷ ks) h n = for_if (KeepsName n) (bytes_eq n k.0) (h.0 n) (kept_among ks h.1 n)

pub keeps_name : (n : List ℕ) → KeepsName n (kind_named n)
-- begin: written by tools/kinds
keeps_name n = for_if (KeepsName n) (begins_with relocations_prefix n) (relocations_kept n) (kept_among known_names (named_kept Names name_name kinds.Names refl, (named_kept Linking linking_name kinds.Linking refl, (named_kept Producers producers_name kinds.Producers refl, (named_kept TargetFeatures features_name kinds.TargetFeatures refl, (named_kept Hints hints_name kinds.Hints refl, (named_kept Core core_name kinds.Core refl, (named_kept CoreModules modules_name kinds.CoreModules refl, (named_kept CoreInstances instances_name kinds.CoreInstances refl, (named_kept CoreStack stack_name kinds.CoreStack refl, (named_kept SourceMappingUrl source_map_name kinds.SourceMappingUrl refl, (named_kept ExternalDebugInfo debug_file_name kinds.ExternalDebugInfo refl, (named_kept BuildId build_id_name kinds.BuildId refl, (named_kept Dylink dylink_name kinds.Dylink refl, (named_kept InstructionFrequencies frequencies_name kinds.InstructionFrequencies refl, (named_kept CompilationOrders orders_name kinds.CompilationOrders refl, (named_kept CallTargets call_targets_name kinds.CallTargets refl, tt)))))))))))))))) n)

-- end: written by tools/kinds

-- ---- numbers of items

-- If the bytes are a vector of `F`, a section of the kind has as many items, which are the image by
-- `f`.
abbrev pub CountsAs : {X : Type 0} → (List X → Contents) → Format X → SectionKind → Type 0
CountsAs {X} f F k = (m : Mode) (kind : SectionKind) (bytes : List ℕ) (r : Result (Option ℕ) Failure) → kind ≡ k → IfOk r (λ n. (xs : List X) × vec F m bytes xs × (n ≡ Some (length xs))) → IfOk r (λ n. (x : Contents) × content kind m bytes x × (n ≡ number_in x))

count_as : {X : Type 0} (f : List X → Contents) {F : Format X} {k : SectionKind} → content k ≡ mapped f (vec F) → ((xs : List X) → Some (length xs) ≡ number_in (f xs)) → CountsAs f F k
count_as f is numbered m kind bytes (Ok n) e h = (f h.0, subst (λ z. content z m bytes (f h.0)) (sym e) (subst (λ G. G m bytes (f h.0)) (sym is) (h.0, refl, h.1)), h.2 ∙ numbered h.0)
count_as f is numbered m kind bytes (Err z) e h = tt

-- begin: written by tools/kinds
pub bodies_counted : CountsAs Bodies (size_prefixed body) kinds.Bodies
bodies_counted = count_as Bodies refl (λ xs. refl)

pub segments_counted : CountsAs Segments data_item kinds.Segments
segments_counted = count_as Segments refl (λ xs. refl)

pub elements_counted : CountsAs Elements element kinds.Elements
elements_counted = count_as Elements refl (λ xs. refl)

pub exports_counted : CountsAs Exports export kinds.Exports
exports_counted = count_as Exports refl (λ xs. refl)

pub functions_counted : CountsAs Functions u32 kinds.Functions
functions_counted = count_as Functions refl (λ xs. refl)

pub globals_counted : CountsAs Globals global_item kinds.Globals
globals_counted = count_as Globals refl (λ xs. refl)

pub imports_counted : CountsAs Imports import_format kinds.Imports
imports_counted = count_as Imports refl (λ xs. refl)

pub memories_counted : CountsAs Memories memory_type kinds.Memories
memories_counted = count_as Memories refl (λ xs. refl)

pub tables_counted : CountsAs Tables table_item kinds.Tables
tables_counted = count_as Tables refl (λ xs. refl)

pub tags_counted : CountsAs Tags tag_type kinds.Tags
tags_counted = count_as Tags refl (λ xs. refl)

pub types_counted : CountsAs Types type_item kinds.Types
types_counted = count_as Types refl (λ xs. refl)

pub ruleset number_steps = (bodies_counted, segments_counted, elements_counted, exports_counted, functions_counted, globals_counted, imports_counted, memories_counted, tables_counted, tags_counted, types_counted)

-- end: written by tools/kinds

-- Sections of the other kinds have no number of items.
-- begin: written by tools/kinds
pub uncounted : (kind : SectionKind) (m : Mode) (s : List ℕ) (x : Contents) → content kind m s x → kind ≢ kinds.Bodies → kind ≢ kinds.Segments → kind ≢ kinds.Elements → kind ≢ kinds.Exports → kind ≢ kinds.Functions → kind ≢ kinds.Globals → kind ≢ kinds.Imports → kind ≢ kinds.Memories → kind ≢ kinds.Tables → kind ≢ kinds.Tags → kind ≢ kinds.Types → kind ≢ kinds.DataCount → kind ≢ kinds.Start → None ≡ number_in x
uncounted kinds.Bodies m s x h n0 n1 n2 n3 n4 n5 n6 n7 n8 n9 n10 n11 n12 = absurd (n0 refl)
uncounted kinds.Segments m s x h n0 n1 n2 n3 n4 n5 n6 n7 n8 n9 n10 n11 n12 = absurd (n1 refl)
uncounted kinds.DataCount m s x h n0 n1 n2 n3 n4 n5 n6 n7 n8 n9 n10 n11 n12 = absurd (n11 refl)
uncounted kinds.Elements m s x h n0 n1 n2 n3 n4 n5 n6 n7 n8 n9 n10 n11 n12 = absurd (n2 refl)
uncounted kinds.Exports m s x h n0 n1 n2 n3 n4 n5 n6 n7 n8 n9 n10 n11 n12 = absurd (n3 refl)
uncounted kinds.Functions m s x h n0 n1 n2 n3 n4 n5 n6 n7 n8 n9 n10 n11 n12 = absurd (n4 refl)
uncounted kinds.Globals m s x h n0 n1 n2 n3 n4 n5 n6 n7 n8 n9 n10 n11 n12 = absurd (n5 refl)
uncounted kinds.Imports m s x h n0 n1 n2 n3 n4 n5 n6 n7 n8 n9 n10 n11 n12 = absurd (n6 refl)
uncounted kinds.Memories m s x h n0 n1 n2 n3 n4 n5 n6 n7 n8 n9 n10 n11 n12 = absurd (n7 refl)
uncounted kinds.Start m s x h n0 n1 n2 n3 n4 n5 n6 n7 n8 n9 n10 n11 n12 = absurd (n12 refl)
uncounted kinds.Tables m s x h n0 n1 n2 n3 n4 n5 n6 n7 n8 n9 n10 n11 n12 = absurd (n8 refl)
uncounted kinds.Tags m s x h n0 n1 n2 n3 n4 n5 n6 n7 n8 n9 n10 n11 n12 = absurd (n9 refl)
uncounted kinds.Types m s x h n0 n1 n2 n3 n4 n5 n6 n7 n8 n9 n10 n11 n12 = absurd (n10 refl)
uncounted kind m s x h n0 n1 n2 n3 n4 n5 n6 n7 n8 n9 n10 n11 n12 = ap number_in h.1

-- end: written by tools/kinds

-- ---- custom sections

-- Sections of this kind have no number of items.
abbrev pub IsUncounted : SectionKind → Type 0
IsUncounted kind = (m : Mode) (s : List ℕ) (x : Contents) → content kind m s x → number_in x ≡ None

abbrev AreUncounted : List (List ℕ × SectionKind) → Type 0
AreUncounted [] = Unit {0}
AreUncounted (k ∷ ks) = IsUncounted k.1 × AreUncounted ks

uncounted_among : (ks : List (List ℕ × SectionKind)) → AreUncounted ks → (n : List ℕ) → IsUncounted (kind_among_names ks n)
uncounted_among [] h n = λ m s x g. sym (ap number_in g.1)
uncounted_among (k ∷ ks) h n = for_if IsUncounted (bytes_eq n k.0) h.0 (uncounted_among ks h.1 n)

pub named_uncounted : (n : List ℕ) → IsUncounted (kind_named n)
-- begin: written by tools/kinds
named_uncounted n = for_if IsUncounted (begins_with relocations_prefix n) (λ m s x g. sym (ap number_in g.1))
    (uncounted_among known_names (
      λ m s x g. sym (ap number_in g.1),
      (
        λ m s x g. sym (ap number_in g.1),
        (
          λ m s x g. sym (ap number_in g.1),
          (
            λ m s x g. sym (ap number_in g.1),
            (
              λ m s x g. sym (ap number_in g.1),
              (
                λ m s x g. sym (ap number_in g.1),
                (
                  λ m s x g. sym (ap number_in g.1),
                  (
                    λ m s x g. sym (ap number_in g.1),
                    (
                      λ m s x g. sym (ap number_in g.1),
                      (
                        λ m s x g. sym (ap number_in g.1),
                        (
                          λ m s x g. sym (ap number_in g.1),
                          (λ m s x g. sym (ap number_in g.1), (λ m s x g. sym (ap number_in g.1), (λ m s x g. sym (ap number_in g.1), (λ m s x g. sym (ap number_in g.1), (λ m s x g. sym (ap number_in g.1), tt))))),
                        ),
                      ),
                    ),
                  ),
                ),
              ),
            ),
          ),
        ),
      ),
    ) n)
    -- end: written by tools/kinds
