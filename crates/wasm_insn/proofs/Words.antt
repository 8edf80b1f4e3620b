-- This file re-exports the names that the proofs of dependent crates use.
pub use Rattle.wasm_insn.proofs.DecodeOperands.{nothing_is, number_is}
pub use Rattle.wasm_insn.proofs.InstructionLaws.{any_begins, br_table_encodes, byte_encodes, decodes, lists_whole, one_argument, unique}
pub use Rattle.wasm_insn.proofs.PlainLaws.{opcode_encodes, opcode_unambiguous, plain_encodes}
pub use Rattle.wasm_insn.proofs.TableRows.{instruction_row}
pub use Rattle.wasm_insn.proofs.TableRuns.{byte_shape}
pub use Rattle.wasm_insn.specs.Arguments.{Argument, signed32, unsigned}
pub use Rattle.wasm_insn.specs.Instructions.{HasSmallAlignments, IsEncodableInstruction, IsWellFormedInstruction, IsWellFormedWhereAligned, instruction_encoding, row_of}
pub use Rattle.wasm_insn.specs.Operands.{AreOperands, DecodesOperation}
pub use Rattle.wasm_insn.specs.Plain.{Plain, arguments, arguments_after, instruction, is_prefix, op_after, part, plain_encoding, same_op, shape_of}
pub use Rattle.wasm_insn.specs.Sink.{WritesLabels, br_table_encoding}
pub use Rattle.wasm_insn.specs.Table.{IsRow}
unfoldable pub use Rattle.wasm_insn.specs.Table.{table}
pub use Rattle.wasm_insn.specs.Views.{plain_view}
