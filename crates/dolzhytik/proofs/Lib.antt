-- This file re-exports the lemmas of the libraries: those of wasm_base are
-- `Rattle.dolzhytik.proofs.base`, and so on.
pub mod KnownLengths
pub use Rattle.wasm_base.proofs as base
pub use Rattle.wasm_immediates.proofs as immediates
pub use Rattle.wasm_insn.proofs as insn
pub use Rattle.wasm_code.proofs as code
pub use Rattle.wasm_sections.proofs as sections
pub use Rattle.wasm_types.proofs as types
pub use Rattle.wasm_custom.proofs as custom
pub use Rattle.wasm_reader.proofs as reading
pub use Rattle.wasm_remap.proofs as remapping
