-- This file defines modules without some of their functions.
use Rattle.std.specs.Prelude.{◌≡◌, ◌≢◌, ◌⊎◌, ℕ, ◌+◌, ◌<◌, ◌^◌, List, [], ◌∷◌, length, map, drop, get_or, Bool, true, false, cond, nat_lt, not, Option, Some, None}
use Rattle.std.specs.List.{filter}
use Rattle.wasm_base.specs.Words.{RejectsWhole, admitted, number_of, padded, standard, wasm_module}
use Rattle.wasm_base.specs.declared.refused.Refused.TheVariants as refusals
use Rattle.wasm_base.specs.declared.section_id.SectionId.TheVariants as ids
use Rattle.wasm_custom.specs.Names.{NameItem, Module, Map, Indirect, Other}
use Rattle.wasm_reader.specs.Kinds.{Contents, content, Bodies, Functions, Imports, Names}
use Rattle.wasm_reader.specs.Outlines.{HasSections}
use Rattle.wasm_reader.specs.Sections.{AppendsContentIn, HasContentIn}
use Rattle.wasm_reader.specs.Words.{Section, section_kind_of}
use Rattle.wasm_reader.specs.declared.whole.Offsets.{Offsets}
use Rattle.wasm_remap.specs.Customs.{name_spaces, space_among}
use Rattle.wasm_remap.specs.Errors.{ExplainsChange, ExplainsContent, ExplainsModule, HasFirst}
use Rattle.wasm_remap.specs.Imported.{imported}
use Rattle.wasm_remap.specs.Mapping.{IsSmall, Mapping}
use Rattle.wasm_remap.specs.Places.{IsFound, lacks}
use Rattle.wasm_remap.specs.Sections.{ChangesModule, remapped}
use Rattle.wasm_remap.specs.Shifted.{is_same}
use Rattle.wasm_sections.specs.Words.{ImportItem}
use Rattle.wasm_remap.specs.declared.remove.RemoveError.{RemoveError}
use Rattle.wasm_remap.specs.declared.remove.RemoveError.TheVariants.{Imported, InUse, Unlisted}
use Rattle.wasm_remap.specs.declared.indexed.RemapError.{RemapError}
use Rattle.wasm_remap.specs.declared.indexed.RemapError.TheVariants as errors
use Rattle.wasm_remap.specs.declared.spaces.IndexSpace.{IndexSpace}
use Rattle.wasm_remap.specs.declared.spaces.IndexSpace.TheVariants as spaces

-- ---- new indices

-- Whether the function of this index is removed. One past the flags is not.
abbrev pub is_removed : List Bool → ℕ → Bool
is_removed removed n = get_or removed n false

-- The new indices of functions, the first one `next`. A removed function has none.
abbrev pub numbered : ℕ → List Bool → List (Option ℕ)
numbered next [] = []
numbered next (true ∷ flags) = None ∷ numbered next flags
numbered next (false ∷ flags) = Some next ∷ numbered (next + 1) flags

-- The table has no index for this function.
abbrev pub HasNone : List (Option ℕ) → IndexSpace → ℕ → Type 0
HasNone table space n = (is_same space spaces.Functions ≡ true) × (get_or table n None ≡ None)

-- The error of a use of this function, for which the table has no index. It is removed, or past the
-- end of the table.
pub record IsUse (table : List (Option ℕ)) (space : IndexSpace) (n : ℕ) (e : RemoveError) : Type 0 where
  pub none : HasNone table space n
  pub is : e ≡ cond (nat_lt n (length table)) (InUse n) (Unlisted n)

-- The index that is there, or else 0.
abbrev pub or_zero : Option ℕ → ℕ
or_zero None = 0
or_zero (Some n) = n

-- The map of functions by a table. Other indices stay.
abbrev pub by_table : List (Option ℕ) → Mapping
by_table table space n = cond (is_same space spaces.Functions) (or_zero (get_or table n None)) n

-- The mapping numbers the functions that stay, from 0 on. Other indices stay. What it has for removed
-- functions is free.
abbrev pub Renumbers : List Bool → Mapping → Type 0
Renumbers removed m = (space : IndexSpace) (n : ℕ) → (HasNone (numbered 0 removed) space n → ⊥) → m space n ≡ by_table (numbered 0 removed) space n

-- ---- items

-- The items whose flag is not set. Items past the flags stay.
abbrev pub unflagged : {X : Type 0} → List Bool → List X → List X
unflagged flags [] = []
unflagged [] (x ∷ xs) = x ∷ xs
unflagged (true ∷ flags) (x ∷ xs) = unflagged flags xs
unflagged (false ∷ flags) (x ∷ xs) = x ∷ unflagged flags xs

-- Whether a pair is of a function that stays.
abbrev pub stays : {X : Type 0} → List Bool → ℕ × X → Bool
stays removed p = not (is_removed removed p.0)

-- The pairs without those of removed functions, if the first numbers are functions.
abbrev pub staying : {X : Type 0} → List Bool → Option IndexSpace → List (ℕ × X) → List (ℕ × X)
staying removed None ps = ps
staying removed (Some space) ps = cond (is_same space spaces.Functions) (filter (stays removed) ps) ps

-- A subsection of a name section, without the names of removed functions, of their locals and of
-- their labels.
abbrev pub trimmed_name : List Bool → NameItem → NameItem
trimmed_name removed (Module n) = Module n
trimmed_name removed (Map id ns) = Map id (staying removed (space_among name_spaces id) ns)
trimmed_name removed (Indirect id ms) = Indirect id (staying removed (space_among name_spaces id) ms)
trimmed_name removed (Other id bytes) = Other id bytes

-- The content without the removed functions. `defined` has the flags of those that the module defines.
abbrev pub trimmed : List Bool → List Bool → Contents → Contents
trimmed removed defined (Functions xs) = Functions (unflagged defined xs)
trimmed removed defined (Bodies xs) = Bodies (unflagged defined xs)
trimmed removed defined (Names xs) = Names (map (trimmed_name removed) xs)
trimmed removed defined x = x

-- The section decodes to items, and the payload is the minimal encoding of those without the removed
-- functions, with each index mapped, if they have one. They have if the new indices are below 2^32,
-- and the section has fewer than 2^26 bytes.
pub record IsTrimmed (removed defined : List Bool) (m : Mapping) (s : Section) (payload : List ℕ) : Type 0 where
  pub items : Contents
  pub decoded : content (section_kind_of s) standard s.payload items
  pub appended : AppendsContentIn admitted (remapped m (trimmed removed defined items)) [] payload
  pub has : IsSmall m → length s.payload < 2 ^ 26 → HasContentIn admitted (remapped m (trimmed removed defined items))

-- ---- modules

-- The number of functions that the sections import.
abbrev pub ImportsFunctions : List Section → ℕ → Type 0
ImportsFunctions all n =
    (lacks (number_of ids.Import) all × (n ≡ 0))
    ⊎ ((before after : List Section) × (s : Section) × IsFound (number_of ids.Import) before s after all × ((xs : List _) × content (section_kind_of s) standard s.payload (Imports xs) × (n ≡ imported spaces.Functions xs)))

-- The new module has the sections of the old one without the removed functions, for each mapping that
-- numbers those that stay: so no index that is mapped is that of a removed function. No removed
-- function is imported.
pub record RemovesFunctions (removed : List Bool) (offsets : Offsets) (bytes new : List ℕ) : Type 0 where
  pub sections : List Section
  pub has : HasSections bytes sections
  pub imported : ℕ
  pub imports : ImportsFunctions sections imported
  pub stay : (n : ℕ) → n < imported → is_removed removed n ≡ false
  pub changes : (m : Mapping) → Renumbers removed m → ChangesModule (IsTrimmed removed (drop imported removed) m) offsets bytes new

-- ---- errors

-- Why the items of a section are not changed.
abbrev pub ExplainsTrimmed : (removed defined : List Bool) → Section → RemapError RemoveError → Type 0
ExplainsTrimmed removed defined = ExplainsContent (λ x. remapped (by_table (numbered 0 removed)) (trimmed removed defined x)) (IsUse (numbered 0 removed))

-- The change of a section for a removal.
abbrev pub IsTrimmedBy : (removed defined : List Bool) → Section → List ℕ → Type 0
IsTrimmedBy removed defined s payload = (m : Mapping) → Renumbers removed m → IsTrimmed removed defined m s payload

-- The bytes are a module that imports this number of functions.
pub record HasImported (bytes : List ℕ) (imported : ℕ) : Type 0 where
  pub sections : List Section
  pub has : HasSections bytes sections
  pub imports : ImportsFunctions sections imported

-- Why the imported functions are not counted: the bytes are no module, the imports do not decode, or
-- there are 2^32 or more.
abbrev pub ExplainsCount : {E : Type 0} → List ℕ → RemapError E → Type 0
ExplainsCount bytes (errors.Read fault) = RejectsWhole wasm_module padded bytes ⊎ HasFirst (number_of ids.Import) bytes (λ s. RejectsWhole (content (section_kind_of s)) standard s.payload)
ExplainsCount bytes (errors.Refused refused) = refused ≢ refusals.Memory → HasFirst (number_of ids.Import) bytes (λ s. (xs : List ImportItem) × content (section_kind_of s) standard s.payload (Imports xs) × (imported spaces.Functions xs < 2 ^ 32 → ⊥))
ExplainsCount bytes (errors.Index e) = ⊥
ExplainsCount bytes (errors.Offsets offset) = ⊥

-- Why the flags do not fit the module: an imported function is to be removed, or there are 2^32 flags
-- or more.
abbrev pub ExplainsFlags : List Bool → (imported : ℕ) → RemapError RemoveError → Type 0
ExplainsFlags removed imported (errors.Index (Imported n)) = (n < imported) × (is_removed removed n ≡ true)
ExplainsFlags removed imported (errors.Refused refused) = refused ≢ refusals.Memory → length removed < 2 ^ 32 → ⊥
ExplainsFlags removed imported e = ⊥

-- Why functions are not removed from a module.
abbrev pub ExplainsRemoval : List Bool → Offsets → List ℕ → RemapError RemoveError → Type 0
ExplainsRemoval removed offsets bytes e =
    ExplainsCount bytes e
    ⊎ ((imported : ℕ) × HasImported bytes imported × (ExplainsFlags removed imported e ⊎ ExplainsModule (ExplainsChange (IsTrimmedBy removed (drop imported removed)) (ExplainsTrimmed removed (drop imported removed))) offsets bytes e))
