-- This file re-exports definitions that the specs of dependent crates use.
pub use Rattle.wasm_immediates.specs.ImmediateFormats.{IsWellFormedBlock, IsWellFormedCatch, IsWellFormedHandle, IsWellFormedMemory, bit, block_type, catch, handle, mem_arg, normal_memory}
pub use Rattle.wasm_immediates.specs.ImmediateFormats.{ordering_format}
pub use Rattle.wasm_immediates.specs.Immediates.{block_encoding, catch_encoding, handle_encoding, mem_arg_encoding, ordering_code, where_set}
unfoldable pub use Rattle.wasm_immediates.specs.Immediates.{vector_encoding}
