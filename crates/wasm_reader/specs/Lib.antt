-- This file lists the crate's files of definitions, and re-exports definitions for its proofs.
pub mod Words
pub mod Kinds
pub mod Sections
pub mod Modules
pub mod Outlines
pub mod Iterating
pub mod Shortening
pub mod Conversions
unfoldable pub use Rattle.wasm_reader.specs.Kinds.*
unfoldable pub use Rattle.wasm_reader.specs.Sections.*
unfoldable pub use Rattle.wasm_reader.specs.Modules.*
unfoldable pub use Rattle.wasm_reader.specs.Outlines.*
unfoldable pub use Rattle.wasm_reader.specs.Iterating.*
unfoldable pub use Rattle.wasm_reader.specs.Shortening.*
unfoldable pub use Rattle.wasm_reader.specs.Conversions.*
