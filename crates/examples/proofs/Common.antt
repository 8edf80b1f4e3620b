-- This file re-exports what the proofs of this crate's functions use.
pub use Rattle.examples.proofs.Gains.{gains_last, gains_member, gains_more, gains_none}
pub use Rattle.examples.proofs.Rows.{call_listed, while_listed}
pub use Rattle.examples.proofs.StrippedLaws.{HasStripped, stripped_custom, stripped_done, stripped_kept}
pub use Rattle.examples.specs.Adding.{add_export}
pub use Rattle.examples.specs.Compiled.{factorial_of, squares_of}
pub use Rattle.examples.specs.Filled.{three_places}
pub use Rattle.examples.specs.Large.{large_constant, large_memory}
pub use Rattle.examples.specs.Lowering.{GainsOperations}
pub use Rattle.examples.specs.Object.{count_down_symbol}
pub use Rattle.examples.specs.Padded.{number}
pub use Rattle.examples.specs.Stripped.{IsStripped}
pub use Rattle.examples.specs.Sums.{sum_global}
pub use Rattle.examples.specs.Trees.{expr_operations, statement_operations}
pub use Rattle.examples.specs.Whole.{factorial_export, five, import_of_function, memory_export, one_page, ready}
pub use Rattle.std.proofs.Common.{count_by}
pub use Rattle.std.proofs.lemmas.List.Sums.{count_by_more_no, count_by_more_yes}
pub use Rattle.std.specs.declared.alloc.Global.{Global}
pub use Rattle.wasm_base.proofs.SectionLaws.{payloads}
pub use Rattle.wasm_base.proofs.Words.{cut_extends, cut_gains, cut_none, cut_same, gains_joined}
pub use Rattle.wasm_base.proofs.Words.{All, All-more, Err, FUNCREF, IsVal, List, None, Ok, OnOk, Result, [], adds_item, adds_items, ap, arith, ascii, codes}
pub use Rattle.wasm_base.proofs.Words.{contains_padded, copied_source, drained_array, each, encodes_items, encodes_items_padded, fault_stays, finished, flat_map, gains_raw}
pub use Rattle.wasm_base.proofs.Words.{ints, iter_rest, length, map, map-id, neg_ℤ, new_module, on_ok, padded, pos, refl, rules, s32}
pub use Rattle.wasm_base.proofs.Words.{subst, sym, take, take_all, take_more, u32, ℕ, ◌++◌, ◌∙◌, ◌∷◌, ◌≤◌}
pub use Rattle.wasm_base.specs.Cow.{items_of}
pub use Rattle.wasm_base.specs.declared.refused.Refused.{Refused}
pub use Rattle.wasm_base.specs.declared.types.ValType.TheVariants.{I32}
pub use Rattle.wasm_code.proofs.Words.{AddsInstruction, Body, IsWellFormedBody, adds_body, adds_body_padded, adds_constant, adds_instruction, adds_instruction_padded, and_then, encodes_code}
pub use Rattle.wasm_code.proofs.Words.{encodes_code_padded, encodes_padded, gains_code, gains_code_padded, included_body, included_constant, lent, new_code, new_function}
pub use Rattle.wasm_code.proofs.Words.{normal_row, one_constant, padded_i32_const, raw_constant, without_runs, writes_instruction, writes_labels}
pub use Rattle.wasm_custom.proofs.Words.{adds_field, adds_hints, adds_inside, adds_module_name, adds_name, adds_names, adds_names_inside, adds_symbol, adds_symbols, adds_value, gains_hints}
pub use Rattle.wasm_custom.proofs.Words.{gains_linking, gains_names, gains_producers, list_cut, new_field, new_hints, new_indirect_map, new_linking, new_map, new_names, new_producers, new_symbols}
pub use Rattle.wasm_immediates.specs.declared.block_type.BlockType.TheVariants.{Empty}
pub use Rattle.wasm_immediates.specs.declared.memory.MemArgTarget.TheVariants.{Memory}
pub use Rattle.wasm_insn.proofs.Words.{HasSmallAlignments, IsWellFormedWhereAligned}
pub use Rattle.wasm_insn.specs.declared.instruction.Instruction.{Instruction}
pub use Rattle.wasm_insn.specs.declared.instruction.Instruction.TheVariants.{Block, BrIf, Call, End, GlobalGet, GlobalSet, I32Const, I32Load, I32Store, LocalGet, Numeric, RefFunc, Return}
pub use Rattle.wasm_insn.specs.declared.numeric.Numeric.TheVariants.{I32Add, I32Eqz, I32Mul, I32Sub}
pub use Rattle.wasm_reader.proofs.DecodeOutlines.{no_header, no_module}
pub use Rattle.wasm_reader.proofs.IteratingLaws.{next_error, next_section, section_ahead}
pub use Rattle.wasm_sections.proofs.Words.{ContainsMemories, IsExport, IsMemory, active, adds_active, adds_alike, adds_export, adds_expressions, adds_functions, adds_global, adds_global_padded}
pub use Rattle.wasm_code.proofs.CodeLaws.{code_section-payload}
pub use Rattle.wasm_sections.proofs.FunctionLaws.{functions_section}
pub use Rattle.wasm_types.proofs.TypeLaws.{types_section}
pub use Rattle.wasm_sections.proofs.Words.{adds_passive, adds_table, array_added, copied_added, exports_section, gains_elements, gains_exports, gains_functions, gains_globals, gains_imports}
pub use Rattle.wasm_sections.proofs.Words.{gains_memories, gains_number, gains_segments, gains_tables, globals_section, import_item, new_elements, new_exports, new_functions, new_globals}
pub use Rattle.wasm_sections.proofs.Words.{new_imports, new_memories, new_segments, new_tables, passive}
pub use Rattle.wasm_sections.specs.Imports.{compact_item}
pub use Rattle.wasm_sections.specs.declared.import.EntityType.TheVariants.{Function}
pub use Rattle.wasm_types.proofs.Words.{adds_shape, counted, func, gains_types, listed_arrays, new_types, same_types}
