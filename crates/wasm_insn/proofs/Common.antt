-- This file re-exports what the proofs of this crate's functions use.
pub use Rattle.wasm_base.proofs.Words.{All, All-more, AppendsMinimal, builders_alone, HasEncoding, List, [], ap, arith, fault_stays, flat_map, front_and_rest, if_ok_more, map, map-append, mapped_decodes, mapped_rejects}
pub use Rattle.wasm_base.proofs.Words.{memory_stays, on_ok, padded_of, refl, standard, stays_short, rules, subst, sym, take, take_all, to_z-of_z, w32, w64, ◌++◌, ◌+◌, ◌∙◌, ◌∷◌, ◌≡◌}
pub use Rattle.std.proofs.Common.{w16}
pub use Rattle.wasm_insn.proofs.ByteShapes.{byte_place}
pub use Rattle.wasm_insn.proofs.CaseLaws.{all_rows, is_case}
pub use Rattle.wasm_insn.proofs.DecodeArguments.{HasArguments, arguments_done, arguments_fail, arguments_start, arguments_step, block_none, heap_none, memory_none, one_rejects}
pub use Rattle.wasm_insn.proofs.DecodeArguments.{ordering_none, part_none, part_skipped, shape_rejects, signed32_none, signed64_none}
pub use Rattle.wasm_insn.proofs.DecodeInstructions.{instruction_decodes, instruction_no_arguments, op_none}
pub use Rattle.wasm_insn.proofs.DecodeOperands.{encoded_operand, encoded_same, memory_rejected, short_memory, short_operation, short_signed32, short_signed64, signed32_operand, signed32_rejected, signed64_operand, signed64_rejected}
pub use Rattle.wasm_insn.proofs.DecodePlain.{arguments_plain, formed_encodable, instruction_appended, plain_at}
pub use Rattle.wasm_insn.proofs.InstructionLaws.{decodes, one_encoding, unique}
pub use Rattle.wasm_insn.proofs.TableRows.{instruction_row}
pub use Rattle.wasm_insn.specs.{AreOperands, Argument, DecodesOperands, IsWellFormedWhereAligned, argument_encoding, argument_view, arguments, catches, handles, instruction, labels, parts_of, table, types}
