-- This file lists the crate's files of definitions, and re-exports definitions for its proofs.
pub mod Words
pub mod Customs
pub mod Entries
pub mod Lists
pub mod Adding
pub mod Names
pub mod Symbols
pub mod Segments
pub mod InitFunctions
pub mod Comdats
pub mod Linking
pub mod Producers
pub mod TargetFeatures
pub mod CodeMetadata
pub mod Hints
pub mod CoreDumps
pub mod CoreValues
pub mod CoreStacks
pub mod DebugFiles
pub mod Dylink
pub mod Relocations
unfoldable pub use Rattle.wasm_custom.specs.Customs.*
unfoldable pub use Rattle.wasm_custom.specs.Entries.*
unfoldable pub use Rattle.wasm_custom.specs.Lists.*
unfoldable pub use Rattle.wasm_custom.specs.Adding.*
unfoldable pub use Rattle.wasm_custom.specs.Names.*
unfoldable pub use Rattle.wasm_custom.specs.Symbols.*
unfoldable pub use Rattle.wasm_custom.specs.Segments.*
unfoldable pub use Rattle.wasm_custom.specs.InitFunctions.*
unfoldable pub use Rattle.wasm_custom.specs.Comdats.*
unfoldable pub use Rattle.wasm_custom.specs.Linking.*
unfoldable pub use Rattle.wasm_custom.specs.Producers.*
unfoldable pub use Rattle.wasm_custom.specs.TargetFeatures.*
unfoldable pub use Rattle.wasm_custom.specs.CodeMetadata.*
unfoldable pub use Rattle.wasm_custom.specs.Hints.*
unfoldable pub use Rattle.wasm_custom.specs.CoreDumps.*
unfoldable pub use Rattle.wasm_custom.specs.CoreValues.*
unfoldable pub use Rattle.wasm_custom.specs.CoreStacks.*
unfoldable pub use Rattle.wasm_custom.specs.DebugFiles.*
unfoldable pub use Rattle.wasm_custom.specs.Dylink.*
unfoldable pub use Rattle.wasm_custom.specs.Relocations.*
