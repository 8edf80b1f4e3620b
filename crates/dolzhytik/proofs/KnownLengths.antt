-- This file re-exports the lemmas that the first lines of a caller's crate cite.
pub use Rattle.wasm_base.proofs.KnownLengths.{drained_array, drained_copied, drained_vec}
