-- This file re-exports what the proofs of this crate's functions use.
pub use Rattle.std.specs.declared.alloc.Global.{Global}
pub use Rattle.wasm_base.proofs.Words.{All, All-last, AppendsMinimal, builders_alone, Decodes, HasEncodableSize, HasMembers, IsEncodableSection, List, Rejects, Yields-push, [], all_appended, ap, append-nil}
pub use Rattle.wasm_base.proofs.Words.{append_assoc, arith, begins_such, drop, empty_not, eqb-false, eqb-true, fault_stays, filled_decodes, filled_none, filled_rejects, flat_map, front_and_rest}
pub use Rattle.wasm_base.proofs.Words.{front_appended, front_then, if_err_any, length, map, member_encoded, member_shorter, members, members_continued, members_done, members_fail, members_more}
pub use Rattle.wasm_base.proofs.Words.{memory_stays, next_appended, no_members_appended, none_left, on_ok, on_ok_both, optional_encoding, padded, padded_of, refl, rules, size_prefixed_appended}
pub use Rattle.wasm_base.proofs.Words.{size_prefixed_encoding, stays_short, subst, such, such_none, such_unambiguous, sym, take, ◌++◌, ◌+◌, ◌-◌, ◌<◌, ◌∙◌, ◌∷◌, ◌≡◌, ◌≢◌, ◌≤◌}
pub use Rattle.wasm_code.proofs.BodyLaws.{body_decodes, grows_by, runs_given}
pub use Rattle.wasm_code.proofs.CodeLaws.{code_decodes}
pub use Rattle.wasm_code.proofs.DecodeLists.{HasEnded, body_fills, body_fills_viewed, body_no_code, body_no_runs, ended_done, ended_fail, ended_short, ended_start, ended_step, front_is, not_end}
pub use Rattle.wasm_code.proofs.Drained.{drained_vec}
pub use Rattle.wasm_code.proofs.ExpressionLaws.{appends_whole, encodable_always, stores_first, stores_given, stores_more}
pub use Rattle.wasm_code.proofs.MinimalLists.{body_appended, body_encodable, front_sized, runs_encoded}
pub use Rattle.wasm_code.proofs.RunLaws.{are_runs_of, longer_run, next_run, not_full, types_given}
pub use Rattle.wasm_code.proofs.SameTypes.{same_val}
pub use Rattle.wasm_code.proofs.WalkCalls.{HasWalked, begun, continues, ended, stopped, walk_ends, walk_fails, walk_gives}
pub use Rattle.wasm_code.proofs.WalkLaws.{before_end_fails, decodes_there, end_ended, end_fails, failure_stays, follow_there, follows, from_offset, next_fails, runs_read, some_ahead, step_decodes, step_further}
pub use Rattle.wasm_code.specs.{Body, IsCounted, IsNoEnd, IsRuns, ahead, body, body_view, expand, expression, first_encoding}
pub use Rattle.wasm_insn.proofs.Words.{Plain, any_begins, instruction, instruction_encoding, plain_view, table, unique}
pub use Rattle.wasm_insn.specs.declared.instruction.Instruction.TheVariants.{F32Const, F64Const, GlobalGet, I32Const, I64Const, Numeric, RefFunc, RefNull, VectorImmediate}
pub use Rattle.wasm_insn.specs.declared.numeric.Numeric.TheVariants.{I32Add, I32Mul, I32Sub, I64Add, I64Mul, I64Sub}
pub use Rattle.wasm_insn.specs.declared.vector_immediate.VectorImmediate.TheVariants.{V128Const}
