-- This file proves that the content of a section has an encoding after a map of its indices.
use Rattle.wasm_base.proofs.Words.{◌≡◌, ℕ, ◌^◌, ◌<◌, List, length, map, refl, subst, sym, arith}
use Rattle.wasm_base.specs.Numbers.{admitted, standard, standard_minimal}
-- begin: written by tools/kinds
use Rattle.wasm_reader.specs.Kinds.{Bodies, Segments, DataCount, Elements, Exports, Functions, Globals, Imports, Memories, Start, Tables, Tags, Names, Linking, Producers, Hints, Core, CoreModules}
use Rattle.wasm_reader.specs.Kinds.{CoreInstances, CoreStack, Custom, Raw, Types, TargetFeatures, SourceMappingUrl, ExternalDebugInfo, BuildId, Dylink, Relocations, InstructionFrequencies}
use Rattle.wasm_reader.specs.Kinds.{CompilationOrders, CallTargets}
-- end: written by tools/kinds
use Rattle.wasm_reader.specs.Kinds.{Contents, content}
use Rattle.wasm_reader.specs.Sections.{AppendsContentIn, HasContentIn, HasShortBodies}
use Rattle.wasm_reader.specs.Words.{Section, section_kind_of}
use Rattle.wasm_reader.specs.declared.kinds.SectionKind.{SectionKind}
use Rattle.wasm_reader.specs.declared.kinds.SectionKind.TheVariants as kinds
use Rattle.wasm_reader.proofs.KindLaws.{content_whole, kind_is}
use Rattle.wasm_remap.specs.Customs.{remapped_hints, remapped_hints_in, remapped_instance, remapped_link, remapped_name, remapped_targets}
use Rattle.wasm_remap.specs.Instructions.{remapped_body}
use Rattle.wasm_remap.specs.Items.{remapped_data, remapped_element, remapped_export, remapped_global, remapped_import, remapped_table, remapped_tag}
use Rattle.wasm_remap.specs.Mapping.{Mapping, IsSmall}
use Rattle.wasm_remap.specs.Sections.{RemapsSection, remapped}
use Rattle.wasm_remap.specs.Types.{remapped_type}
use Rattle.wasm_remap.specs.declared.spaces.IndexSpace.TheVariants as spaces
use Rattle.wasm_remap.proofs.MappedCode.{body_maps, index_maps}
use Rattle.wasm_remap.proofs.MappedCustoms.{call_targets_maps, frequencies_maps, hints_maps, instances_maps, linking_maps, name_maps, orders_maps, relocations_maps}
use Rattle.wasm_remap.proofs.MappedForms.{Maps, kept, mapped_maps, size_prefixed_maps, vec_maps}
use Rattle.wasm_remap.proofs.MappedItems.{data_maps, element_maps, export_maps, global_maps, import_maps, table_maps, tag_maps}
use Rattle.wasm_remap.proofs.MappedTypes.{type_maps}

short_bodies : (kind : SectionKind) (t : List ℕ) → length t < 2 ^ 31 → HasShortBodies admitted kind t
short_bodies kinds.Bodies t l = l
short_bodies kind t l = tt

-- The content of a section of fewer than 2^26 bytes is encodable after such a change.
pub changed_content : (f : Contents → Contents) (kind : SectionKind) (s : List ℕ) (x : Contents) → Maps f (content kind) → length s < 2 ^ 26 → content kind standard s x → HasContentIn admitted (f x)
changed_content f kind s x maps l h =
    let whole = content_whole kind in
    let least = whole.encodings.shorter admitted s x h in
    let a = maps.form least.0 x (omega (arith, l, least.2)) least.1 in
    let d : content kind standard a.0 (f x) = whole.encodings.included standard_minimal standard tt a.0 (f x) a.1 in
    let same = sym (kind_is standard kind a.0 (f x) d) in
    let short : HasShortBodies admitted kind a.0 = short_bodies kind a.0 (omega (arith, a.2, least.2, l)) in
    record { grammar = admitted; extended = tt; bytes = a.0; decoded = subst (λ k. content k standard a.0 (f x)) same d; short = subst (λ k. HasShortBodies admitted k a.0) same short }

module _ (m : Mapping) (small : IsSmall m) where
  pub content_maps : (kind : SectionKind) → Maps (remapped m) (content kind)
  -- begin: written by tools/kinds
  content_maps kinds.Bodies = mapped_maps Bodies (map (remapped_body m)) (λ x. refl) (vec_maps (size_prefixed_maps (body_maps m small)))
  content_maps kinds.Segments = mapped_maps Segments (map (remapped_data m)) (λ x. refl) (vec_maps (data_maps m small))
  content_maps kinds.DataCount = mapped_maps DataCount (λ x. x) (λ x. refl) kept
  content_maps kinds.Elements = mapped_maps Elements (map (remapped_element m)) (λ x. refl) (vec_maps (element_maps m small))
  content_maps kinds.Exports = mapped_maps Exports (map (remapped_export m)) (λ x. refl) (vec_maps (export_maps m small))
  content_maps kinds.Functions = mapped_maps Functions (map (m spaces.Types)) (λ x. refl) (vec_maps (index_maps m small spaces.Types))
  content_maps kinds.Globals = mapped_maps Globals (map (remapped_global m)) (λ x. refl) (vec_maps (global_maps m small))
  content_maps kinds.Imports = mapped_maps Imports (map (remapped_import m)) (λ x. refl) (vec_maps (import_maps m small))
  content_maps kinds.Memories = mapped_maps Memories (λ x. x) (λ x. refl) kept
  content_maps kinds.Start = mapped_maps Start (m spaces.Functions) (λ x. refl) (index_maps m small spaces.Functions)
  content_maps kinds.Tables = mapped_maps Tables (map (remapped_table m)) (λ x. refl) (vec_maps (table_maps m small))
  content_maps kinds.Tags = mapped_maps Tags (map (remapped_tag m)) (λ x. refl) (vec_maps (tag_maps m small))
  content_maps kinds.Names = mapped_maps Names (map (remapped_name m)) (λ x. refl) (name_maps m small)
  content_maps kinds.Linking = mapped_maps Linking (map (remapped_link m)) (λ x. refl) (linking_maps m small)
  content_maps kinds.Producers = mapped_maps Producers (λ x. x) (λ x. refl) kept
  content_maps kinds.Hints = mapped_maps Hints (map (remapped_hints m)) (λ x. refl) (hints_maps m small)
  content_maps kinds.Core = mapped_maps Core (λ x. x) (λ x. refl) kept
  content_maps kinds.CoreModules = mapped_maps CoreModules (λ x. x) (λ x. refl) kept
  content_maps kinds.CoreInstances = mapped_maps CoreInstances (map (remapped_instance m)) (λ x. refl) (instances_maps m small)
  content_maps kinds.CoreStack = mapped_maps CoreStack (λ x. x) (λ x. refl) kept
  content_maps kinds.Custom = mapped_maps Custom (λ x. x) (λ x. refl) kept
  content_maps kinds.Raw = mapped_maps Raw (λ x. x) (λ x. refl) kept
  content_maps kinds.Types = mapped_maps Types (map (remapped_type m)) (λ x. refl) (vec_maps (type_maps m small))
  content_maps kinds.TargetFeatures = mapped_maps TargetFeatures (λ x. x) (λ x. refl) kept
  content_maps kinds.SourceMappingUrl = mapped_maps SourceMappingUrl (λ x. x) (λ x. refl) kept
  content_maps kinds.ExternalDebugInfo = mapped_maps ExternalDebugInfo (λ x. x) (λ x. refl) kept
  content_maps kinds.BuildId = mapped_maps BuildId (λ x. x) (λ x. refl) kept
  content_maps kinds.Dylink = mapped_maps Dylink (λ x. x) (λ x. refl) kept
  content_maps kinds.Relocations = mapped_maps Relocations _ (λ x. refl) (relocations_maps m small)
  content_maps kinds.InstructionFrequencies = mapped_maps InstructionFrequencies (map (remapped_hints_in m)) (λ x. refl) (frequencies_maps m small)
  content_maps kinds.CompilationOrders = mapped_maps CompilationOrders (map (remapped_hints_in m)) (λ x. refl) (orders_maps m small)
  content_maps kinds.CallTargets = mapped_maps CallTargets (map (remapped_targets m)) (λ x. refl) (call_targets_maps m small)

  -- end: written by tools/kinds

  -- The content of a section of fewer than 2^26 bytes is encodable after the map.
  remapped_content : (kind : SectionKind) (s : List ℕ) (x : Contents) → length s < 2 ^ 26 → content kind standard s x → HasContentIn admitted (remapped m x)
  remapped_content kind s x = changed_content (remapped m) kind s x (content_maps kind)

pub section_remapped : (m : Mapping) (s : Section) (x y : Contents) (old new : List ℕ) → content (section_kind_of s) standard s.payload x → y ≡ remapped m x → AppendsContentIn admitted y old new → RemapsSection m s old new
section_remapped m s x y old new h e a = record { items = x; decoded = h; appended = subst (λ z. AppendsContentIn admitted z old new) e a; has = λ small l. remapped_content m small (section_kind_of s) s.payload x l h }
