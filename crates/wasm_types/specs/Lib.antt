-- The definitions of the crate: each file as a module, and all of them in one import.
pub mod Words
pub mod RecTypes
pub mod Given
pub mod Calls
pub mod Items
unfoldable pub use Rattle.wasm_types.specs.RecTypes.*
unfoldable pub use Rattle.wasm_types.specs.Given.*
unfoldable pub use Rattle.wasm_types.specs.Calls.*
unfoldable pub use Rattle.wasm_types.specs.Items.*
