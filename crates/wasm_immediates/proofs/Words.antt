-- This file re-exports the names that the proofs of dependent crates use.
pub use Rattle.wasm_immediates.proofs.DecodeImmediates.{option_same}
pub use Rattle.wasm_immediates.proofs.DecodePlain.{block_is, catch_is, handle_is, memory_is}
pub use Rattle.wasm_immediates.proofs.ImmediateEncodings.{block_encodes, catch_encodes, handle_encodes, memory_encodes, vector_encodes}
pub use Rattle.wasm_immediates.proofs.ImmediateLaws.{bit_value, block_unambiguous, catch_unambiguous, handle_unambiguous, mem_arg_unambiguous, ordering_unambiguous}
pub use Rattle.wasm_immediates.specs.ImmediateFormats.{IsWellFormedCatch, IsWellFormedHandle, after_flags, bit, block_type, catch, handle, mem_arg, mem_ordering, normal_memory, ordering_format}
pub use Rattle.wasm_immediates.specs.Immediates.{catch_encoding, handle_encoding, where_set}
