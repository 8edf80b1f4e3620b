-- This file re-exports what the proofs of this crate's functions use.
pub use Rattle.calls.proofs.Branch.{after_constant, length_after, with_block}
pub use Rattle.calls.proofs.CalledLaws.{calls_and_call, calls_and_other, ends_members, gives_member}
pub use Rattle.calls.proofs.OneByte.{one_byte}
pub use Rattle.calls.specs.Called.{is_call}
pub use Rattle.std.proofs.Common.{count_by, ◌+◌}
pub use Rattle.std.proofs.lemmas.List.{length-append}
pub use Rattle.wasm_base.proofs.DecodeVectors.{loop_step}
pub use Rattle.wasm_base.proofs.Words.{HasRead, loop_decodes, loop_rejects, u32_unambiguous, vec_rejects_count, Decodes, List, [], ap, arith, common_steps, drop, fault_stays, length, map-id, padded}
pub use Rattle.wasm_base.proofs.Words.{pair, refl, standard, standard_minimal, subst, sym, u32, val_type, vec, ℕ, ◌++◌, ◌-◌, ◌<◌, ◌∙◌, ◌∷◌, ◌≡◌, ◌≤◌}
pub use Rattle.wasm_base.specs.declared.types.AbstractHeapType.TheVariants.{Exn}
pub use Rattle.wasm_code.proofs.Words.{Body, HasVisited, HasWalked, ahead, and_then, body_fills, body_no_code, continues, ended, stopped, walk_ends, walk_fails, walk_gives}
pub use Rattle.wasm_insn.proofs.Words.{Plain, instruction, table}
