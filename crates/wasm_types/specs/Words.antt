-- This file re-exports definitions that the specs of dependent crates use.
pub use Rattle.wasm_types.specs.Items.{entry_view}
pub use Rattle.wasm_types.specs.RecTypes.{Sub, TypeItem, array, func, plain_type, single, structure, type_decoding, type_item}
