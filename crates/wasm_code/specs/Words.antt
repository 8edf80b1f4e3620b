-- This file re-exports definitions that the specs of dependent crates use.
pub use Rattle.wasm_code.specs.Bodies.{Body, IsWellFormedBody, and_then, body}
pub use Rattle.wasm_code.specs.BodyViews.{body_view}
pub use Rattle.wasm_code.specs.Code.{code_decoding, raw_code_decoding}
pub use Rattle.wasm_code.specs.Expressions.{StoresIn, expression, expression_encoding, normal_row}
pub use Rattle.wasm_code.specs.Laws.{br_table_row}
pub use Rattle.wasm_code.specs.Walks.{GivesInstruction, NextInstruction, Walking, ahead}
