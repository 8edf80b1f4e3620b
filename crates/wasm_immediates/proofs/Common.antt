-- This file re-exports what the proofs of this crate's functions use.
pub use Rattle.wasm_base.proofs.Words.{are_bytes, arith, common_steps, eight_read, fault_stays, four_read, front_and_rest, inl, inr, ◌∙◌}
pub use Rattle.wasm_immediates.proofs.DecodeImmediates.{block_empty, block_index, block_no_index, block_no_result, block_none, block_result_decodes, catch_all, catch_all_ref, catch_no_all}
pub use Rattle.wasm_immediates.proofs.DecodeImmediates.{catch_no_all_ref, catch_no_one, catch_no_one_ref, catch_none, catch_one, catch_one_ref, handle_no_label, handle_no_switch, handle_none}
pub use Rattle.wasm_immediates.proofs.DecodeImmediates.{handle_on_label, handle_on_switch, mem_acq_rel, mem_order_none, mem_rmw, mem_seq_cst, memory_decodes, memory_no_offset, memory_no_ordering}
pub use Rattle.wasm_immediates.proofs.DecodeImmediates.{memory_no_target, memory_none, memory_plain, memory_plain_none, memory_unknown, ordering_none}
pub use Rattle.wasm_immediates.proofs.ImmediateEncodings.{memory_arguments, one_byte}
