-- This file re-exports the names that the proofs of dependent crates use.
pub use Rattle.wasm_code.proofs.BodyLaws.{body_whole, grows, has_locals, no_locals, size_prefixed_body_unambiguous}
pub use Rattle.wasm_code.proofs.Calls.{adds_bodies, adds_bodies_padded, adds_body, adds_body_padded, adds_constant, adds_instruction, adds_instruction_padded, adds_instructions_padded, all_of}
pub use Rattle.wasm_code.proofs.Calls.{encodes_code, encodes_code_padded, encodes_padded, gains_code, gains_code_padded, gains_raw_code, included_body, included_constant, lent, new_code, new_function}
pub use Rattle.wasm_code.proofs.Calls.{new_function_of_types, one_constant, padded_i32_const, raw_constant, without_runs, writes_instruction, writes_labels}
pub use Rattle.wasm_code.proofs.DecodeLists.{body_fills, body_no_code}
pub use Rattle.wasm_code.proofs.Drained.{drained_vec}
pub use Rattle.wasm_code.proofs.ExpressionLaws.{expression_encodes, expression_unambiguous, members_one, normal_encodes, stores_included}
pub use Rattle.wasm_code.proofs.WalkCalls.{HasWalked, continues, ended, stopped, walk_ends, walk_fails, walk_gives}
pub use Rattle.wasm_code.specs.Bodies.{AddsInstruction, Body, IsWellFormedBody, and_then, body, locals_encoding}
pub use Rattle.wasm_code.specs.BodyViews.{body_view}
pub use Rattle.wasm_code.specs.Expressions.{IsNoEnd, StoresInstructions, StoresPadded, expression, expression_encoding, normal_row}
pub use Rattle.wasm_code.specs.Offsets.{HasVisited}
pub use Rattle.wasm_code.specs.Walks.{GivesInstruction, NextInstruction, Walking, ahead}
