-- This file defines the name section, its encoding and its format. Core specification, Appendix,
-- Custom Sections, Name Section.
use Rattle.std.specs.Prelude.{◌≡◌, ℕ, ◌^◌, ◌<◌, List, [], ◌∷◌, ◌++◌, Bool, true, false, cond, ◌==◌, IsUtf8, codes, map}
use Rattle.std.specs.Borrow.{Bor}
use Rattle.std.specs.declared.vec.Vec.{Vec}
use Rattle.wasm_base.specs.Words.{Kind, ContainsItems, Format, u32, byte, any_bytes, name, mapped, pair, tagged, vec, size_prefixed, fixed, IsEncodableName, unsigned_encoding, size_prefixed_encoding}
use Rattle.wasm_base.specs.Words.{vec_encoding, IsEncodableVec, SectionDecoding}
use Rattle.wasm_custom.specs.Customs.{subsection_encoding, named_payload, decoding_as}
use Rattle.wasm_custom.specs.Entries.{entries}
use Rattle.wasm_custom.specs.Lists.{IsListOf}
use Rattle.wasm_custom.specs.declared.names.NameItem as read
use Rattle.wasm_custom.specs.declared.names.NameItem.TheVariants as items
use Rattle.wasm_custom.specs.declared.names.NameKind as read_kind
use Rattle.wasm_custom.specs.declared.names.NameKind.TheVariants as kinds

-- A name association: an index and its name.
abbrev pub Naming : Type 0
Naming = ℕ × List ℕ

-- An indirect name association: an index, and the name associations of the items in it.
abbrev pub Inside : Type 0
Inside = ℕ × List Naming

-- The encoding of a name association: the index, and the name.
abbrev pub naming_encoding : Naming → List ℕ
naming_encoding n = unsigned_encoding n.0 ++ size_prefixed_encoding n.1

-- The encoding of an indirect name association: the index, and a name map.
abbrev pub inside_encoding : Inside → List ℕ
inside_encoding i = unsigned_encoding i.0 ++ vec_encoding naming_encoding i.1

-- The name association is well-formed: its index is below 2^32, and its name is UTF-8 of at most
-- 2^32 - 1 bytes.
abbrev pub IsNaming : Naming → Type 0
IsNaming n = (n.0 < 2 ^ 32) × IsEncodableName n.1

-- The indirect name association is well-formed: its index is below 2^32, and its names are
-- well-formed and their number is at most 2^32 - 1.
abbrev pub IsInside : Inside → Type 0
IsInside i = (i.0 < 2 ^ 32) × IsEncodableVec IsNaming i.1

-- A name association: an index and a name.
abbrev pub naming : Format Naming
naming = pair u32 name

-- A name map: a vector of name associations.
abbrev pub name_map : Format (List Naming)
name_map = vec naming

-- An indirect name map: a vector of indices with a name map each.
abbrev pub indirect_map : Format (List Inside)
indirect_map = vec (pair u32 name_map)

-- ---- subsections

-- A subsection: the name of the module, a name map or an indirect name map with its id, or the
-- bytes of another id.
pub data NameItem : Type 0 where
  Module : List ℕ → NameItem
  Map : ℕ → List Naming → NameItem
  Indirect : ℕ → List Inside → NameItem
  Other : ℕ → List ℕ → NameItem

-- The kind of a subsection's content.
pub data NameKind : Type 0 where
  of_module : NameKind
  of_map : NameKind
  of_indirect : NameKind
  of_other : NameKind

-- Whether the id is in the list.
abbrev pub is_one_of : List ℕ → ℕ → Bool
is_one_of [] id = false
is_one_of (i ∷ is) id = cond (id == i) true (is_one_of is id)

-- The ids of name maps: functions, types, tables, memories, globals, elements, data, tags. The core
-- specification has 1, 4 and 11.
abbrev pub map_ids : List ℕ
map_ids = 1 ∷ 4 ∷ 5 ∷ 6 ∷ 7 ∷ 8 ∷ 9 ∷ 11 ∷ []

-- The ids of indirect name maps: locals, labels, fields, parameters, parameters of tags. The core
-- specification has 2 and 10.
abbrev pub indirect_ids : List ℕ
indirect_ids = 2 ∷ 3 ∷ 10 ∷ 12 ∷ 13 ∷ []

-- The kind of the content of a subsection, by its id.
abbrev pub name_kind_of : ℕ → NameKind
name_kind_of id = cond (id == 0) of_module (cond (is_one_of map_ids id) of_map (cond (is_one_of indirect_ids id) of_indirect of_other))

-- The format of the bytes after the id of a subsection with this kind of content.
abbrev pub after_id : NameKind → ℕ → Format NameItem
after_id of_module id = mapped Module (size_prefixed name)
after_id of_map id = mapped (Map id) (size_prefixed name_map)
after_id of_indirect id = mapped (Indirect id) (size_prefixed indirect_map)
after_id of_other id = mapped (Other id) (size_prefixed any_bytes)

-- A subsection: an id, then its size-prefixed content.
abbrev pub subsection : Format NameItem
subsection = tagged byte (λ id. after_id (name_kind_of id) id)

-- ---- encodings

-- The encoding of a subsection: its id, then its size-prefixed content.
abbrev pub name_encoding : NameItem → List ℕ
name_encoding (Module n) = subsection_encoding 0 (size_prefixed_encoding n)
name_encoding (Map id names) = subsection_encoding id (vec_encoding naming_encoding names)
name_encoding (Indirect id names) = subsection_encoding id (vec_encoding inside_encoding names)
name_encoding (Other id content) = subsection_encoding id content

-- The subsection is well-formed: its id is one of its kind of content, names are UTF-8, indices are
-- below 2^32, and name maps fit.
abbrev pub IsName : NameItem → Type 0
IsName (Module n) = IsUtf8 n
IsName (Map id names) = (name_kind_of id ≡ of_map) × IsEncodableVec IsNaming names
IsName (Indirect id names) = (name_kind_of id ≡ of_indirect) × IsEncodableVec IsInside names
IsName (Other id content) = name_kind_of id ≡ of_other

-- The kind of subsections of a name section.
abbrev pub name_items : Kind NameItem NameItem
name_items = record { encoding = name_encoding; IsWellFormed = IsName; IsWellFormedPadded = IsName; normal_form = λ item. item; format = subsection }

-- The section name `name`.
abbrev pub name_name : List ℕ
name_name = codes "name"

-- ---- the name section

-- The pieces are the encodings of these name associations.
abbrev pub AreNamings : List (List ℕ) → List Naming → Type 0
AreNamings = IsListOf naming_encoding IsNaming

-- The pieces are the encodings of these indices with their name maps.
abbrev pub AreInsides : List (List ℕ) → List Inside → Type 0
AreInsides = IsListOf inside_encoding IsInside

-- The pieces encode these subsections.
abbrev pub ContainsNames : List (List ℕ) → List NameItem → Type 0
ContainsNames = ContainsItems name_items

-- The payload of a name section: its name, and its subsections.
abbrev pub name_payload : Format (List NameItem)
name_payload = named_payload name_name (entries (fixed [] (tt {0})) false subsection)

-- The name section that decodes to these subsections.
abbrev pub name_decoding : List NameItem → SectionDecoding
name_decoding subsections = decoding_as name_payload subsections

-- ---- decoded subsections

-- The kind of a subsection's content, as the code has it.
abbrev pub kind_as : read_kind.NameKind → NameKind
kind_as kinds.Module = of_module
kind_as kinds.Map = of_map
kind_as kinds.Indirect = of_indirect
kind_as kinds.Other = of_other

-- The format of a subsection's content of this kind.
abbrev pub inside : NameKind → ℕ → Format NameItem
inside of_module id = mapped Module name
inside of_map id = mapped (Map id) name_map
inside of_indirect id = mapped (Indirect id) indirect_map
inside of_other id = mapped (Other id) any_bytes

-- The view of a decoded name map.
abbrev pub names_view : List (ℕ × Bor (List ℕ)) → List Naming
names_view = map (λ n. (n.0, n.1.now))

-- The view of a decoded indirect name association.
abbrev pub inside_view : {A : Type 0} → ℕ × Vec (ℕ × Bor (List ℕ)) A → Inside
inside_view i = (i.0, names_view i.1.items)

-- The view of a decoded subsection.
abbrev pub name_item_view : {A : Type 0} → read.NameItem A → NameItem
name_item_view (items.Module n) = Module n.now
name_item_view (items.Map id ns) = Map id (names_view ns.items)
name_item_view (items.Indirect id ms) = Indirect id (map inside_view ms.items)
name_item_view (items.Other id bytes) = Other id bytes.now

-- The id of a subsection.
abbrev pub id_of : NameItem → ℕ
id_of (Module n) = 0
id_of (Map id ns) = id
id_of (Indirect id ms) = id
id_of (Other id bytes) = id

-- The kind of a subsection's content.
abbrev pub held_by : NameItem → NameKind
held_by (Module n) = of_module
held_by (Map id ns) = of_map
held_by (Indirect id ms) = of_indirect
held_by (Other id bytes) = of_other
