-- This file re-exports what the proofs of this crate's functions use.
pub use Rattle.read_back.proofs.IteratedLaws.{payload_sliced}
pub use Rattle.read_back.specs.Customs.{data_symbol, likely}
pub use Rattle.read_back.specs.Declarations.{byte_field, exported, imported_function, open_bytes, pages, thrown, two_pages}
pub use Rattle.read_back.specs.Dumps.{first_frame, first_instance, other_frame, other_instance}
pub use Rattle.read_back.specs.FirstValues.{copied, functions_type, null_table, nulled_table}
pub use Rattle.read_back.specs.Libraries.{flagged_export, weak_import}
pub use Rattle.read_back.specs.ReadPadded.{zero_offset}
pub use Rattle.read_back.specs.Stored.{byte_later, eight}
pub use Rattle.std.proofs.lemmas.List.{length-append}
pub use Rattle.std.specs.declared.alloc.Global.{Global}
pub use Rattle.wasm_base.proofs.Words.{All-nil, IsUnsignedInRange, List, None, Rejects, [], adds_item, adds_items_padded, adds_raw, ap, ap₂, arith, ascii, codes, contains_padded, copied_source}
pub use Rattle.wasm_base.proofs.Words.{custom, drained_array, drained_vec, drop, each, encodes_items, encodes_items_padded, finished, gains_items_padded, header, ints, iter_rest, length, members}
pub use Rattle.wasm_base.proofs.Words.{minimal, name, neg_ℤ, new_module, padded, pos, refl, rules, s32, size_prefixed, standard, subst, such, sym, u32, u32_small, unshared, ◌++◌, ◌-◌, ◌∙◌, ◌∷◌, ◌≡◌}
pub use Rattle.wasm_base.proofs.Words.{◌≤◌}
pub use Rattle.wasm_base.specs.declared.types.AbstractHeapType.TheVariants.{Func}
pub use Rattle.wasm_base.specs.declared.types.ValType.TheVariants.{I32}
pub use Rattle.wasm_code.proofs.Words.{HasWalked, IsNoEnd, StoresPadded, adds_body, adds_body_padded, adds_instruction_padded, adds_instructions_padded, ahead, all_of, body_fills, body_no_code}
pub use Rattle.wasm_code.proofs.Words.{continues, encodes_code, encodes_code_padded, encodes_padded, ended, gains_raw_code, included_body, lent, members_one, new_code, new_function}
pub use Rattle.wasm_code.proofs.Words.{new_function_of_types, normal_row, one_constant, padded_i32_const, raw_constant, stopped, walk_ends, walk_fails, walk_gives, without_runs, writes_instruction}
pub use Rattle.wasm_custom.proofs.Words.{Map, Module, NameItem, adds_core_module, adds_dylink_export, adds_dylink_import, adds_dylink_memory, adds_exports_flags, adds_feature, adds_field, adds_folder}
pub use Rattle.wasm_custom.proofs.Words.{adds_frame, adds_frame_of, adds_hints, adds_hints_of, adds_imports_flags, adds_instance, adds_instance_of, adds_module_name, adds_name, adds_names}
pub use Rattle.wasm_custom.proofs.Words.{adds_needed, adds_other_names, adds_raw_names_inside, adds_runtime_path, adds_symbol, adds_symbols, adds_target, adds_value, array_gives, build_id_payload}
pub use Rattle.wasm_custom.proofs.Words.{copied_gives, core_payload, debug_file_payload, dylink_payload, encodes_custom, encodes_entries, features_payload, gains_given, gains_given_raw}
pub use Rattle.wasm_custom.proofs.Words.{gains_instances, gains_modules, gains_names_padded, gains_process, gains_stack, hints_payload, indirect_map, instances_payload, linking_payload}
pub use Rattle.wasm_custom.proofs.Words.{modules_payload, name_map, name_payload, named_encoding, names_section, new_dylink, new_dylink_exports, new_dylink_imports, new_features, new_field, new_hints}
pub use Rattle.wasm_custom.proofs.Words.{new_instances, new_linking, new_map, new_modules, new_names, new_producers, new_runtime_path, new_stack, new_symbols, producers_payload, adds_relocation}
pub use Rattle.wasm_custom.proofs.Words.{new_relocations, relocations_payload, source_map_payload, stack_payload, vec_gives}
pub use Rattle.wasm_custom.specs.declared.target_features.FeaturePrefix.TheVariants.{Disallowed, Used}
pub use Rattle.wasm_insn.proofs.Words.{Plain, byte_encodes, byte_shape, instruction, one_argument, table, unsigned}
pub use Rattle.wasm_insn.specs.declared.instruction.Instruction.TheVariants.{End, LocalGet, RefFunc, RefNull}
pub use Rattle.wasm_insn.specs.declared.op.Shape.TheVariants.{U}
pub use Rattle.wasm_reader.proofs.IteratingLaws.{next_section}
pub use Rattle.wasm_reader.proofs.KindLaws.{content_whole}
pub use Rattle.wasm_reader.proofs.Words.{Bodies, Core, CoreInstances, CoreModules, CoreStack, Custom, DataCount, Elements, Exports, Functions, Globals, Hints, Imports, Linking, Memories, Names}
pub use Rattle.wasm_reader.proofs.Words.{Producers, Segments, Start, Tables, Tags, Types, cause_stays, decodes_written, section, shortens_written, written, written_not_rejected}
pub use Rattle.wasm_reader.specs.Kinds.{BuildId, Dylink, ExternalDebugInfo, Relocations, SourceMappingUrl, TargetFeatures}
pub use Rattle.wasm_reader.specs.Words.{contents_of, number_in}
pub use Rattle.wasm_sections.proofs.Words.{IsExport, active, adds_active, adds_active_padded, adds_element, adds_element_padded, adds_export, adds_functions, adds_global, adds_table}
pub use Rattle.wasm_sections.proofs.Words.{adds_table_with_init, adds_table_with_init_padded, array_added, copied_added, data_item, elements_section, exports_section, functions, gains_tags}
pub use Rattle.wasm_sections.proofs.Words.{new_elements, new_exports, new_functions, new_globals, new_imports, new_memories, new_segments, new_tables, new_tags, passive, segments_section}
pub use Rattle.wasm_sections.proofs.Words.{tables_section}
pub use Rattle.wasm_types.proofs.Words.{IsField, adds_shape, adds_type, array, counted, encodes_types, listed_array, new_types, same_types, single, structure}
