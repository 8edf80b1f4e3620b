-- This file re-exports the definitions of the libraries: those of wasm_base are
-- `Rattle.dolzhytik.specs.base`, and so on.
pub use Rattle.wasm_base.specs as base
pub use Rattle.wasm_immediates.specs as immediates
pub use Rattle.wasm_insn.specs as insn
pub use Rattle.wasm_code.specs as code
pub use Rattle.wasm_sections.specs as sections
pub use Rattle.wasm_types.specs as types
pub use Rattle.wasm_custom.specs as custom
pub use Rattle.wasm_reader.specs as reading
pub use Rattle.wasm_remap.specs as remapping
