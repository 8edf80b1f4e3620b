-- The definitions of the crate: each file as a module, and all of them in one import.
pub mod Words
pub mod Numbers
pub mod Formats
pub mod Decoding
pub mod Encodings
pub mod Iterators
pub mod Pieces
pub mod Stores
pub mod Calls
pub mod Modules
pub mod Entries
pub mod Once
pub mod SectionId
pub mod Types
pub mod Cow
pub mod Laws
pub mod Groups
pub mod Continuing
pub mod Minimal
pub mod Walks
pub mod Faults
unfoldable pub use Rattle.wasm_base.specs.Numbers.*
unfoldable pub use Rattle.wasm_base.specs.Formats.*
unfoldable pub use Rattle.wasm_base.specs.Decoding.*
unfoldable pub use Rattle.wasm_base.specs.Encodings.*
unfoldable pub use Rattle.wasm_base.specs.Iterators.*
unfoldable pub use Rattle.wasm_base.specs.Pieces.*
unfoldable pub use Rattle.wasm_base.specs.Stores.*
unfoldable pub use Rattle.wasm_base.specs.Calls.*
unfoldable pub use Rattle.wasm_base.specs.Modules.*
unfoldable pub use Rattle.wasm_base.specs.Entries.*
unfoldable pub use Rattle.wasm_base.specs.Once.*
unfoldable pub use Rattle.wasm_base.specs.SectionId.*
unfoldable pub use Rattle.wasm_base.specs.Types.*
unfoldable pub use Rattle.wasm_base.specs.Cow.*
unfoldable pub use Rattle.wasm_base.specs.Laws.*
unfoldable pub use Rattle.wasm_base.specs.Groups.*
unfoldable pub use Rattle.wasm_base.specs.Continuing.*
unfoldable pub use Rattle.wasm_base.specs.Minimal.*
unfoldable pub use Rattle.wasm_base.specs.Walks.*
unfoldable pub use Rattle.wasm_base.specs.Faults.*
