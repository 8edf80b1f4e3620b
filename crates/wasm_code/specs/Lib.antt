-- The definitions of the crate: each file as a module, and all of them in one import.
pub mod Words
pub mod Expressions
pub mod Bodies
pub mod Code
pub mod Laws
pub mod BodyViews
pub mod Offsets
pub mod Walks
pub mod Members
unfoldable pub use Rattle.wasm_code.specs.Expressions.*
unfoldable pub use Rattle.wasm_code.specs.Bodies.*
unfoldable pub use Rattle.wasm_code.specs.Code.*
unfoldable pub use Rattle.wasm_code.specs.Laws.*
unfoldable pub use Rattle.wasm_code.specs.BodyViews.*
unfoldable pub use Rattle.wasm_code.specs.Offsets.*
unfoldable pub use Rattle.wasm_code.specs.Walks.*
unfoldable pub use Rattle.wasm_code.specs.Members.*
