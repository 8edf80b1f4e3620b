-- This file defines what a map of indices makes of the content of a section, and the promises of the
-- calls that map.
use Rattle.std.specs.Prelude.{◌≡◌, ◌⊎◌, ℕ, ◌<◌, ◌^◌, List, [], ◌∷◌, length, true, false, map}
use Rattle.std.specs.List.{AllByRecursion}
use Rattle.wasm_base.specs.Words.{admitted, standard, wasm_module, DecodesWhole}
use Rattle.wasm_reader.specs.Outlines.{HasSections}
use Rattle.wasm_reader.specs.Shortening.{contains_offsets}
use Rattle.wasm_reader.specs.declared.whole.Offsets.{Offsets}
use Rattle.wasm_reader.specs.declared.whole.Offsets.TheVariants.{Refuse}
use Rattle.wasm_reader.specs.Kinds.{Contents, content, Bodies, Segments, DataCount, Elements, Exports, Functions, Globals, Imports, Memories, Start, Tables, Tags, Names, Linking, Producers, Hints, Core, CoreModules, CoreInstances}
use Rattle.wasm_reader.specs.Kinds.{CoreStack, Custom, Raw, Types, TargetFeatures, SourceMappingUrl, ExternalDebugInfo, BuildId, Dylink, Relocations, InstructionFrequencies, CompilationOrders, CallTargets}
use Rattle.wasm_reader.specs.Sections.{AppendsContentIn, HasContentIn}
use Rattle.wasm_reader.specs.Words.{Section, section_kind_of}
use Rattle.wasm_remap.specs.Customs.{remapped_hints, remapped_hints_in, remapped_instance, remapped_link, remapped_name, remapped_relocation, remapped_targets}
use Rattle.wasm_remap.specs.Instructions.{remapped_body}
use Rattle.wasm_remap.specs.Items.{remapped_data, remapped_element, remapped_export, remapped_global, remapped_import, remapped_table, remapped_tag}
use Rattle.wasm_remap.specs.Mapping.{Mapping, IsSmall}
use Rattle.wasm_remap.specs.Types.{remapped_type}
use Rattle.wasm_remap.specs.declared.spaces.IndexSpace.TheVariants as spaces

-- The content with each index mapped. The frames of a core dump have functions of the dumped modules,
-- which stay.
abbrev pub remapped : Mapping → Contents → Contents
-- begin: written by tools/kinds
remapped m (Bodies xs) = Bodies (map (remapped_body m) xs)
remapped m (Segments xs) = Segments (map (remapped_data m) xs)
remapped m (DataCount n) = DataCount n
remapped m (Elements xs) = Elements (map (remapped_element m) xs)
remapped m (Exports xs) = Exports (map (remapped_export m) xs)
remapped m (Functions xs) = Functions (map (m spaces.Types) xs)
remapped m (Globals xs) = Globals (map (remapped_global m) xs)
remapped m (Imports xs) = Imports (map (remapped_import m) xs)
remapped m (Memories xs) = Memories xs
remapped m (Start n) = Start (m spaces.Functions n)
remapped m (Tables xs) = Tables (map (remapped_table m) xs)
remapped m (Tags xs) = Tags (map (remapped_tag m) xs)
remapped m (Names xs) = Names (map (remapped_name m) xs)
remapped m (Linking xs) = Linking (map (remapped_link m) xs)
remapped m (Producers xs) = Producers xs
remapped m (Hints xs) = Hints (map (remapped_hints m) xs)
remapped m (Core n) = Core n
remapped m (CoreModules xs) = CoreModules xs
remapped m (CoreInstances xs) = CoreInstances (map (remapped_instance m) xs)
remapped m (CoreStack x) = CoreStack x
remapped m (Custom x) = Custom x
remapped m (Raw x) = Raw x
remapped m (Types xs) = Types (map (remapped_type m) xs)
remapped m (TargetFeatures xs) = TargetFeatures xs
remapped m (SourceMappingUrl x) = SourceMappingUrl x
remapped m (ExternalDebugInfo x) = ExternalDebugInfo x
remapped m (BuildId x) = BuildId x
remapped m (Dylink xs) = Dylink xs
remapped m (Relocations x) = Relocations (x.0, (x.1.0, map (remapped_relocation m) x.1.1))
remapped m (InstructionFrequencies xs) = InstructionFrequencies (map (remapped_hints_in m) xs)
remapped m (CompilationOrders xs) = CompilationOrders (map (remapped_hints_in m) xs)
remapped m (CallTargets xs) = CallTargets (map (remapped_targets m) xs)

-- end: written by tools/kinds

-- The section decodes to items, and the buffer gains the minimal encoding of these items with each
-- index mapped, if they have one. They have if the new indices are below 2^32, and the section has
-- fewer than 2^26 bytes, so that no size prefix is too long.
pub record RemapsSection (m : Mapping) (s : Section) (old new : List ℕ) : Type 0 where
  pub items : Contents
  pub decoded : content (section_kind_of s) standard s.payload items
  pub appended : AppendsContentIn admitted (remapped m items) old new
  pub has : IsSmall m → length s.payload < 2 ^ 26 → HasContentIn admitted (remapped m items)

-- ---- modules

-- The sections of the new module for those of the old one, each an id and a payload, which is related
-- to the old section. Sections that hold offsets are left out.
abbrev pub AreChanged : (Section → List ℕ → Type 0) → List Section → List (ℕ × List ℕ) → Type 0
AreChanged R [] news = news ≡ []
AreChanged R (s ∷ olds) news =
    ((contains_offsets s.name ≡ true) × AreChanged R olds news)
    ⊎ ((payload : List ℕ) × (others : List (ℕ × List ℕ)) × (contains_offsets s.name ≡ false) × (news ≡ (s.id, payload) ∷ others) × R s payload × AreChanged R olds others)

-- The bytes are a module, and the new bytes are a module of its changed sections. With `Refuse`, no
-- section holds offsets.
pub record ChangesModule (R : Section → List ℕ → Type 0) (offsets : Offsets) (bytes new : List ℕ) : Type 0 where
  pub olds : List Section
  pub has : HasSections bytes olds
  pub news : List (ℕ × List ℕ)
  pub are : AreChanged R olds news
  pub refused : offsets ≡ Refuse → AllByRecursion (λ s. contains_offsets s.name ≡ false) olds
  pub decodes : DecodesWhole wasm_module new news

-- The payload is that of the section with each index mapped.
abbrev pub IsRemapped : Mapping → Section → List ℕ → Type 0
IsRemapped m s payload = RemapsSection m s [] payload

-- The sections of the new module have the items of the old ones, with each index mapped.
abbrev pub AreRemapped : Mapping → List Section → List (ℕ × List ℕ) → Type 0
AreRemapped m olds news = AreChanged (IsRemapped m) olds news

-- The bytes are a module, and the new bytes are a module of its sections with each index mapped. With
-- `Refuse`, no section holds offsets.
abbrev pub RemapsModule : Mapping → Offsets → List ℕ → List ℕ → Type 0
RemapsModule m offsets bytes new = ChangesModule (IsRemapped m) offsets bytes new
