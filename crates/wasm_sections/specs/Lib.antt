-- This file lists the crate's files of definitions, and re-exports definitions for its proofs.
pub mod Words
pub mod Constants
pub mod Flags
pub mod Memories
pub mod Tags
pub mod Tables
pub mod Exports
pub mod Globals
pub mod Imports
pub mod DataSegments
pub mod Elements
pub mod GivenElements
pub mod Functions
unfoldable pub use Rattle.wasm_sections.specs.Constants.*
unfoldable pub use Rattle.wasm_sections.specs.Flags.*
unfoldable pub use Rattle.wasm_sections.specs.Memories.*
unfoldable pub use Rattle.wasm_sections.specs.Tags.*
unfoldable pub use Rattle.wasm_sections.specs.Tables.*
unfoldable pub use Rattle.wasm_sections.specs.Exports.*
unfoldable pub use Rattle.wasm_sections.specs.Globals.*
unfoldable pub use Rattle.wasm_sections.specs.Imports.*
unfoldable pub use Rattle.wasm_sections.specs.DataSegments.*
unfoldable pub use Rattle.wasm_sections.specs.Elements.*
unfoldable pub use Rattle.wasm_sections.specs.GivenElements.*
unfoldable pub use Rattle.wasm_sections.specs.Functions.*
