-- This file defines what a map of indices makes of the entries of a type section.
use Rattle.std.specs.Prelude.{map}
use Rattle.std.specs.Option.{option_map}
use Rattle.wasm_types.specs.RecTypes.{Shape, func, array, structure, cont, Composite, Sub, TypeItem, single, group}
use Rattle.wasm_types.specs.declared.types.FieldType.{FieldType}
use Rattle.wasm_types.specs.declared.types.StorageType.{StorageType}
use Rattle.wasm_types.specs.declared.types.StorageType.TheVariants.{I8, I16, Val}
use Rattle.wasm_remap.specs.Instructions.{remapped_val}
use Rattle.wasm_remap.specs.Mapping.{Mapping}
use Rattle.wasm_remap.specs.declared.spaces.IndexSpace.TheVariants as spaces

-- A storage type.
abbrev pub remapped_storage : Mapping → StorageType → StorageType
remapped_storage m I8 = I8
remapped_storage m I16 = I16
remapped_storage m (Val ty) = Val (remapped_val m ty)

-- A field type.
abbrev pub remapped_field : Mapping → FieldType → FieldType
remapped_field m f = record { element_type = remapped_storage m f.element_type; mutable = f.mutable }

-- The shape of a composite type.
abbrev pub remapped_shape : Mapping → Shape → Shape
remapped_shape m (func params results) = func (map (remapped_val m) params) (map (remapped_val m) results)
remapped_shape m (array field) = array (remapped_field m field)
remapped_shape m (structure fields) = structure (map (remapped_field m) fields)
remapped_shape m (cont n) = cont (m spaces.Types n)

-- A composite type.
abbrev pub remapped_composite : Mapping → Composite → Composite
remapped_composite m c = record { shared = c.shared; describes = option_map (m spaces.Types) c.describes; descriptor = option_map (m spaces.Types) c.descriptor; shape = remapped_shape m c.shape }

-- A subtype.
abbrev pub remapped_sub : Mapping → Sub → Sub
remapped_sub m s = record { is_final = s.is_final; supertypes = map (m spaces.Types) s.supertypes; composite = remapped_composite m s.composite }

-- An entry: a type alone, or a recursion group.
abbrev pub remapped_type : Mapping → TypeItem → TypeItem
remapped_type m (single s) = single (remapped_sub m s)
remapped_type m (group ss) = group (map (remapped_sub m) ss)
