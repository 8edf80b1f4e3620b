-- This file defines the views of decoded types, their values without locations in memory, and the
-- encodings of decoded types.
use Rattle.std.specs.Prelude.{ℕ, List, ◌∷◌, map, Option}
use Rattle.wasm_base.specs.Words.{vec_encoding, IsEncodableVec}
use Rattle.wasm_types.specs.Given.{composite_in, shape_in, IsEncodableShape}
use Rattle.wasm_types.specs.RecTypes.{sub_encoding, Shape, Sub, TypeItem, single, group}
use Rattle.wasm_types.specs.declared.types.CompositeInnerType.{CompositeInnerType}
use Rattle.wasm_types.specs.declared.items.SubItem.{SubItem}
use Rattle.wasm_types.specs.declared.items.TypeEntry.{TypeEntry}
use Rattle.wasm_types.specs.declared.items.TypeEntry.TheVariants as entries

-- The view of a shape, with the type that describes it.
abbrev pub described_view : {A : Type 0} → Option ℕ × CompositeInnerType A → Option ℕ × Shape
described_view p = (p.0, shape_in p.1)

-- The view of a shape, with the type that it describes and the type that describes it.
abbrev pub describing_view : {A : Type 0} → Option ℕ × (Option ℕ × CompositeInnerType A) → Option ℕ × (Option ℕ × Shape)
describing_view p = (p.0, described_view p.1)

-- The view of a subtype.
abbrev pub sub_view : {A : Type 0} → SubItem A → Sub
sub_view s = record { is_final = s.is_final; supertypes = s.supertypes.items; composite = composite_in s.composite_type }

-- The view of an entry.
abbrev pub entry_view : {A : Type 0} → TypeEntry A → TypeItem
entry_view (entries.Single s) = single (sub_view s)
entry_view (entries.Group v) = group (map sub_view v.items)

-- Every count in the encoding of the subtype is at most 2^32 - 1.
abbrev pub IsEncodableSubItem : {A : Type 0} → SubItem A → Type 0
IsEncodableSubItem s = IsEncodableVec (λ i. Unit {0}) s.supertypes.items × IsEncodableShape (shape_in s.composite_type.inner)

-- The encoding of a decoded entry: a subtype, or 0x4E and the vector of its subtypes.
abbrev pub entry_encoding : {A : Type 0} → TypeEntry A → List ℕ
entry_encoding (entries.Single s) = sub_encoding (sub_view s)
entry_encoding (entries.Group v) = 0x4E ∷ vec_encoding (λ s. sub_encoding (sub_view s)) v.items

-- Every count in the encoding of the entry is at most 2^32 - 1.
abbrev pub IsEncodableEntry : {A : Type 0} → TypeEntry A → Type 0
IsEncodableEntry (entries.Single s) = IsEncodableSubItem s
IsEncodableEntry (entries.Group v) = IsEncodableVec IsEncodableSubItem v.items
