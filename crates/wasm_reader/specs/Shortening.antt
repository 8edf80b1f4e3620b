-- This file defines the minimal form of a module, and the custom sections whose offsets it must
-- preserve.
use Rattle.std.specs.Prelude.{◌≡◌, ◌≢◌, ◌⊎◌, ◌||◌, ℕ, ◌+◌, ◌≤◌, List, [], ◌∷◌, ◌++◌, length, map, codes, min, Bool, true, false, if◌then◌else◌, Decides, MatchBool, Option, Some, None, is_some}
use Rattle.std.specs.List.{AllByRecursion, flat_map}
use Rattle.std.specs.Str.{bytes_eq}
use Rattle.wasm_base.specs.Words.{admitted, padded, standard, any_section, header, members, wasm_module, RejectsWhole, Decodes, Rejects, number_of}
use Rattle.wasm_custom.specs.Words.{begins_with, linking_name, relocations_prefix}
use Rattle.wasm_reader.specs.Outlines.{Section, bytes_of, section_kind_of, IsSection, HasSections, EndsAt, ExplainsHeader}
use Rattle.wasm_reader.specs.Sections.{section, ShortensIn}
use Rattle.wasm_reader.specs.declared.whole.Found.{Found}
use Rattle.wasm_reader.specs.declared.whole.How.{How}
use Rattle.wasm_reader.specs.declared.whole.How.TheVariants.{Minimal, Kept, LeftOut}
use Rattle.wasm_reader.specs.declared.whole.ModuleFault.{ModuleFault}
use Rattle.wasm_reader.specs.declared.whole.Offsets.{Offsets}
use Rattle.wasm_reader.specs.declared.whole.Offsets.TheVariants.{Refuse, LeaveOut}
use Rattle.wasm_reader.specs.declared.whole.Tally.{Tally}
use Rattle.wasm_reader.specs.declared.whole.Target.{Target}
use Rattle.wasm_reader.specs.declared.whole.Target.TheVariants.{CodeAndData, Relocated, Module}
use Rattle.wasm_base.specs.declared.fault.ReadFault.TheVariants.{Memory}
use Rattle.wasm_base.specs.declared.section_id.SectionId.TheVariants as ids
use Rattle.wasm_reader.specs.declared.whole.ModuleFault.TheVariants as faults
pub use Rattle.wasm_base.specs.Minimal.{IsFrontOf}

-- ---- custom sections that hold offsets

-- Whether a custom section of this name holds offsets into code and data. These are symbols,
-- debugging information and indexes of it, a reference to a file with it, the identity that ties
-- such a file to the module, and code metadata.
abbrev pub names_code_offsets : List ℕ → Bool
names_code_offsets n =
    bytes_eq n linking_name || bytes_eq n (codes "external_debug_info") || bytes_eq n (codes "build_id") || begins_with (codes ".debug_") n
    || bytes_eq n (codes ".gdb_index") || begins_with (codes ".apple_") n || begins_with (codes "metadata.code.") n

-- The sections that the offsets in a custom section of this name point into. Relocations name any
-- section, and a source map counts from the first byte of the module.
abbrev pub target_named : List ℕ → Option Target
target_named n =
    if begins_with relocations_prefix n then Some Relocated else
    (if bytes_eq n (codes "sourceMappingURL") then Some Module else
    (if names_code_offsets n then Some CodeAndData else None))

-- The sections that the offsets in a section point into, by its name.
abbrev pub target_of : Option (List ℕ) → Option Target
target_of (Some n) = target_named n
target_of None = None

-- Whether a section holds offsets, by its name.
abbrev pub contains_offsets : Option (List ℕ) → Bool
contains_offsets n = is_some (target_of n)

-- Such offsets count from the front of a section of this id.
abbrev pub IsLedInto : Target → ℕ → Type 0
IsLedInto CodeAndData id = (id ≡ number_of ids.Code) ⊎ (id ≡ number_of ids.Data)
IsLedInto Relocated id = (id ≡ number_of ids.Code) ⊎ ((id ≡ number_of ids.Data) ⊎ (id ≡ number_of ids.Custom))
IsLedInto Module id = (id ≡ number_of ids.Code) ⊎ (id ≡ number_of ids.Data)

-- Such offsets count from the first byte of the module, and point into a section of this id.
abbrev pub IsPlaced : Target → ℕ → Type 0
IsPlaced CodeAndData id = ⊥
IsPlaced Relocated id = ⊥
IsPlaced Module id = id ≡ number_of ids.Code

-- ---- the output for a section

-- A section, and the bytes that replace its size-prefixed payload.
pub record Rewrite : Type 0 where
  pub section : Section
  pub how : How
  pub encoding : List ℕ

-- The bytes are the minimal encoding of the section in the standard's grammar; or its bytes
-- unchanged, since they do not decode by its kind in this grammar. A section that is left out has
-- none.
abbrev pub IsEncodingFor : How → Section → List ℕ → Type 0
IsEncodingFor Minimal s encoding = ShortensIn admitted (section_kind_of s) s.sized (length s.sized) [] encoding
IsEncodingFor Kept s encoding = (encoding ≡ s.sized) × Rejects (section (section_kind_of s)) standard s.sized
IsEncodingFor LeftOut s encoding = ⊥

-- The section is encoded in this way. It is left out exactly if it holds offsets and such sections
-- are to be left out.
abbrev pub IsWritten : Offsets → How → Section → List ℕ → Type 0
IsWritten offsets Minimal s encoding = IsEncodingFor Minimal s encoding × (offsets ≡ LeaveOut → contains_offsets s.name ≡ false)
IsWritten offsets Kept s encoding = IsEncodingFor Kept s encoding × (offsets ≡ LeaveOut → contains_offsets s.name ≡ false)
IsWritten offsets LeftOut s encoding = (encoding ≡ []) × (offsets ≡ LeaveOut) × (contains_offsets s.name ≡ true)

-- The rewrite of a section is as `IsWritten` says.
abbrev pub IsRewrite : Offsets → Rewrite → Type 0
IsRewrite offsets w = IsWritten offsets w.how w.section w.encoding

-- An id and bytes, unless the section is left out.
abbrev pub written_as : How → ℕ → List ℕ → List ℕ
written_as LeftOut id encoding = []
written_as Minimal id encoding = id ∷ encoding
written_as Kept id encoding = id ∷ encoding

-- The bytes that the output has for a section.
abbrev pub written : Rewrite → List ℕ
written w = written_as w.how w.section.id w.encoding

-- 1 if the section is kept unchanged, and 0 otherwise.
abbrev pub keeps : How → ℕ
keeps Kept = 1
keeps Minimal = 0
keeps LeftOut = 0

-- The number of sections that are kept unchanged.
abbrev pub count_kept : List Rewrite → ℕ
count_kept [] = 0
count_kept (w ∷ ws) = keeps w.how + count_kept ws

-- The id of a section in the output, unless it is left out.
abbrev pub id_written : Rewrite → List ℕ
id_written w = written_as w.how w.section.id []

-- The section, which begins at `from` in the input and at `to` in the output, stays where such
-- offsets expect it. It is unchanged if they count from its front, and keeps its offset if they
-- count from the front of the module.
abbrev pub Stays : Target → ℕ → ℕ → Rewrite → Type 0
Stays target from to w = (IsLedInto target w.section.id → w.encoding ≡ w.section.sized) × (IsPlaced target w.section.id → from ≡ to)

-- All of these sections stay, one after another, from these offsets on.
abbrev pub AllStay : Target → ℕ → ℕ → List Rewrite → Type 0
AllStay target from to [] = Unit {0}
AllStay target from to (w ∷ ws) = Stays target from to w × AllStay target (from + length (bytes_of w.section)) (to + length (written w)) ws

-- The offsets of a section remain correct: it holds none, or all sections of the module stay.
abbrev pub KeepsOffsets : List Rewrite → Rewrite → Type 0
KeepsOffsets all w = (target : Target) → target_of w.section.name ≡ Some target → AllStay target (length header) (length header) all

-- The section holds offsets, and not all sections of the module stay.
abbrev pub HasLostOffsets : List Rewrite → Rewrite → Type 0
HasLostOffsets all w = (target : Target) × (target_of w.section.name ≡ Some target) × (AllStay target (length header) (length header) all → ⊥)

-- ---- modules

-- The buffer gains the header and the output for each section: its minimal encoding, or its bytes
-- unchanged if they do not decode by its kind. `kept` counts the unchanged ones. With `Refuse`
-- every section keeps its offsets, and with `LeaveOut` exactly the sections that hold offsets are
-- left out. The output is a module with the ids of the sections that are not left out, and is at
-- most as long as the input.
pub record ShortensModule (offsets : Offsets) (bytes : List ℕ) (kept : ℕ) (old new : List ℕ) : Type 0 where
  pub rewrites : List Rewrite
  pub has : HasSections bytes (map (λ w. w.section) rewrites)
  pub each : AllByRecursion (IsRewrite offsets) rewrites
  pub counted : kept ≡ count_kept rewrites
  pub fitting : offsets ≡ Refuse → AllByRecursion (KeepsOffsets rewrites) rewrites
  pub encoding : List ℕ
  pub is : encoding ≡ header ++ flat_map written rewrites
  pub appended : new ≡ old ++ encoding
  pub shorter : length encoding ≤ length bytes
  pub sections : List (ℕ × List ℕ)
  pub read : wasm_module padded encoding sections
  pub same_ids : map (λ s. s.0) sections ≡ flat_map id_written rewrites

-- The section of this number, counted from 1, is the first whose offsets are lost if each section
-- is minimized.
pub record LosesOffsets (bytes : List ℕ) (number : ℕ) : Type 0 where
  pub before : List Rewrite
  pub holder : Rewrite
  pub after : List Rewrite
  pub has : HasSections bytes (map (λ w. w.section) (before ++ holder ∷ after))
  pub each : AllByRecursion (IsRewrite Refuse) (before ++ holder ∷ after)
  pub counted : length before + 1 ≡ number
  pub first : AllByRecursion (KeepsOffsets (before ++ holder ∷ after)) before
  pub lost : HasLostOffsets (before ++ holder ∷ after) holder

-- The meaning of an error. Either the section of this number is the first that is malformed,
-- whatever its payload, and the bytes are not a module. Or the section of this number loses its
-- offsets. `Memory` implies nothing about the bytes.
abbrev pub Explains : Offsets → List ℕ → ModuleFault → Type 0
Explains offsets bytes (faults.Section number fault) = fault ≢ Memory → EndsAt bytes number × RejectsWhole wasm_module padded bytes
Explains offsets bytes (faults.Offsets number) = (offsets ≡ Refuse) × LosesOffsets bytes number

-- An error at section number 0 has the cause of bytes that do not begin with the header, unless an
-- allocation failed.
abbrev pub ExplainsNoHeader : List ℕ → ModuleFault → Type 0
ExplainsNoHeader bytes (faults.Section number fault) = ExplainsHeader bytes number fault
ExplainsNoHeader bytes (faults.Offsets number) = Unit {0}

-- ---- intermediate steps

-- Whether the bytes differ from the section's size-prefixed payload.
abbrev pub IsChange : Bool → Section → List ℕ → Type 0
IsChange is_changed s encoding = MatchBool is_changed (encoding ≢ s.sized) (encoding ≡ s.sized)

-- The buffer gains the output for the section, encoded in this way.
pub record GainsSection (offsets : Offsets) (s : Section) (how : How) (is_changed : Bool) (old new : List ℕ) : Type 0 where
  pub encoding : List ℕ
  pub written : IsWritten offsets how s encoding
  pub changed : IsChange is_changed s encoding
  pub appended : new ≡ old ++ written_as how s.id encoding

-- Whether a section of this id does not stay for such offsets, given whether it changes and whether
-- its offset stays the same.
abbrev pub AreMoved : Bool → Target → ℕ → Bool → Bool → Type 0
AreMoved is_moved target id is_changed is_level =
    (w : Rewrite) (from to : ℕ) → id ≡ w.section.id → IsChange is_changed w.section w.encoding → Decides is_level (from ≡ to) → MatchBool is_moved (Stays target from to w → ⊥) (Stays target from to w)

-- The number of bytes of the sections in the input.
abbrev pub size_before : List Rewrite → ℕ
size_before ws = length (flat_map (λ w. bytes_of w.section) ws)

-- The number of bytes of the sections in the output.
abbrev pub size_after : List Rewrite → ℕ
size_after ws = length (flat_map written ws)

-- The section holds offsets of this class.
abbrev pub IsInto : Target → Rewrite → Type 0
IsInto target w = target_of w.section.name ≡ Some target

-- No section has the property, or the section of this number, counted from 1, is the first that has
-- it.
abbrev pub IsFirst : (Rewrite → Type 0) → List Rewrite → Option ℕ → Type 0
IsFirst P rewrites None = AllByRecursion (λ w. P w → ⊥) rewrites
IsFirst P rewrites (Some number) = (before after : List Rewrite) × (w : Rewrite) × (rewrites ≡ before ++ w ∷ after) × (length before + 1 ≡ number) × AllByRecursion (λ v. P v → ⊥) before × P w

-- The result for offsets of one class: the first section that holds such offsets, and whether a
-- section that they point into does not stay.
pub record HasFound (target : Target) (rewrites : List Rewrite) (found : Found) : Type 0 where
  pub holder : IsFirst (IsInto target) rewrites found.holder
  pub moved : MatchBool found.is_moved (AllStay target (length header) (length header) rewrites → ⊥) (AllStay target (length header) (length header) rewrites)

-- Whether a section is left out.
abbrev pub leaves_out : Offsets → Bool → Bool
leaves_out Refuse contains = false
leaves_out LeaveOut contains = contains

-- The number that was found before, or else this number if the section has the property.
abbrev pub first_of : Option ℕ → Bool → ℕ → Option ℕ
first_of (Some found) is_such number = Some found
first_of None true number = Some number
first_of None false number = None

-- The smaller number.
abbrev pub earlier : Option ℕ → Option ℕ → Option ℕ
earlier None b = b
earlier (Some a) None = Some a
earlier (Some a) (Some b) = Some (min a b)

-- The number of the first section whose offsets of one class are lost.
abbrev pub lost : Found → Option ℕ
lost found = if found.is_moved then found.holder else None

-- The result for offsets of this class.
abbrev pub found_of : Target → Tally → Found
found_of CodeAndData tally = tally.code_and_data
found_of Relocated tally = tally.relocated
found_of Module tally = tally.in_module

-- The number of the section for which a module is rejected: the first whose offsets are lost.
abbrev pub lost_at : Offsets → Tally → Option ℕ
lost_at Refuse tally = earlier (lost tally.code_and_data) (earlier (lost tally.relocated) (lost tally.in_module))
lost_at LeaveOut tally = None

-- The tally of sections that are encoded: how many they are, how many are kept, and the results for
-- offsets.
pub record HasTally (rewrites : List Rewrite) (tally : Tally) : Type 0 where
  pub sections : tally.sections ≡ length rewrites
  pub kept : tally.kept ≡ count_kept rewrites
  pub found : (target : Target) → HasFound target rewrites (found_of target tally)

-- The bytes begin with sections, followed by `rest`, and the output for these sections is appended.
pub record Rewrites (offsets : Offsets) (bytes rest old new : List ℕ) (tally : Tally) : Type 0 where
  pub rewrites : List Rewrite
  pub joined : bytes ≡ flat_map (λ w. bytes_of w.section) rewrites ++ rest
  pub sections : AllByRecursion (λ w. IsSection w.section) rewrites
  pub each : AllByRecursion (IsRewrite offsets) rewrites
  pub tallied : HasTally rewrites tally
  pub appended : new ≡ old ++ flat_map written rewrites

-- The bytes begin with sections with any payload, one less than this number. Bytes remain, and no
-- such section decodes from their front.
pub record StopsAfter (bytes : List ℕ) (number : ℕ) : Type 0 where
  pub sections : List (ℕ × List ℕ)
  pub rest : List ℕ
  pub read : Decodes (members any_section) padded bytes sections rest
  pub counted : length sections + 1 ≡ number
  pub more : rest ≢ []
  pub none : Rejects any_section padded rest

-- ---- laws

-- The cause of the error is a failed allocation.
abbrev pub IsMemory : ModuleFault → Type 0
IsMemory (faults.Section number fault) = fault ≡ Memory
IsMemory (faults.Offsets number) = ⊥

-- A minimized module can be minimized again, to the same bytes, unless an allocation fails.
pub record IsIdempotent : Type 0 where
  pub again : (offsets : Offsets) (bytes old other encoding next : List ℕ) (kept more : ℕ) → ShortensModule offsets bytes kept old (old ++ encoding) → ShortensModule offsets encoding more other (other ++ next) → next ≡ encoding
  pub accepted : (offsets : Offsets) (bytes old encoding : List ℕ) (kept : ℕ) (fault : ModuleFault) → ShortensModule offsets bytes kept old (old ++ encoding) → Explains offsets encoding fault → IsMemory fault
