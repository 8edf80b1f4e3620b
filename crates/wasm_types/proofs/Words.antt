-- This file re-exports the names that the proofs of dependent crates use.
pub use Rattle.wasm_types.proofs.Calls.{adds_shape, adds_type, counted, encodes_types, gains_types, listed_array, listed_arrays, new_types, same_types}
pub use Rattle.wasm_types.proofs.TypeLaws.{types_section}
pub use Rattle.wasm_types.specs.Items.{entry_view}
pub use Rattle.wasm_types.specs.RecTypes.{IsField, TypeItem, array, func, single, structure, type_item}
