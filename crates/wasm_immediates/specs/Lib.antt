-- The definitions of the crate: each file as a module, and all of them in one import.
pub mod Words
pub mod Immediates
pub mod ImmediateFormats
unfoldable pub use Rattle.wasm_immediates.specs.Immediates.*
unfoldable pub use Rattle.wasm_immediates.specs.ImmediateFormats.*
