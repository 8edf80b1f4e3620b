-- This file re-exports definitions that the specs of dependent crates use.
pub use Rattle.wasm_insn.specs.Arguments.{Argument, labels, memory, signed32, unsigned}
pub use Rattle.wasm_insn.specs.Instructions.{IsEncodableInstruction, IsWellFormedInstruction, instruction_encoding, row_of}
pub use Rattle.wasm_insn.specs.Operands.{AreOperands, DecodesOperation}
pub use Rattle.wasm_insn.specs.Plain.{IsWellFormed, Plain, instruction, normal, plain_encoding, same_op}
pub use Rattle.wasm_insn.specs.Sink.{br_table_encoding}
unfoldable pub use Rattle.wasm_insn.specs.Table.{table}
pub use Rattle.wasm_insn.specs.Views.{plain_view}
