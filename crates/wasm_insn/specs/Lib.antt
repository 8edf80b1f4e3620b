-- The definitions of the crate: each file as a module, and all of them in one import.
pub mod Words
pub mod Opcodes
pub mod Parts
pub mod Arguments
pub mod Plain
pub mod Table
pub mod Numeric
pub mod Aggregate
pub mod PrefixedNumeric
pub mod Vector
pub mod VectorImmediate
pub mod Atomic
pub mod Instructions
pub mod Sink
pub mod Cases
pub mod Views
pub mod Operands
unfoldable pub use Rattle.wasm_insn.specs.Opcodes.*
unfoldable pub use Rattle.wasm_insn.specs.Parts.*
unfoldable pub use Rattle.wasm_insn.specs.Arguments.*
unfoldable pub use Rattle.wasm_insn.specs.Plain.*
unfoldable pub use Rattle.wasm_insn.specs.Table.*
unfoldable pub use Rattle.wasm_insn.specs.Numeric.*
unfoldable pub use Rattle.wasm_insn.specs.Aggregate.*
unfoldable pub use Rattle.wasm_insn.specs.PrefixedNumeric.*
unfoldable pub use Rattle.wasm_insn.specs.Vector.*
unfoldable pub use Rattle.wasm_insn.specs.VectorImmediate.*
unfoldable pub use Rattle.wasm_insn.specs.Atomic.*
unfoldable pub use Rattle.wasm_insn.specs.Instructions.*
unfoldable pub use Rattle.wasm_insn.specs.Sink.*
unfoldable pub use Rattle.wasm_insn.specs.Cases.*
unfoldable pub use Rattle.wasm_insn.specs.Views.*
unfoldable pub use Rattle.wasm_insn.specs.Operands.*
