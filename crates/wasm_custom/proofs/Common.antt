-- This file re-exports what the proofs of this crate's functions use.
pub use Rattle.std.proofs.Common.{w32, w64}
pub use Rattle.wasm_base.proofs.NumberEncodings.{one_group}
pub use Rattle.wasm_base.proofs.SectionLaws.{items, padded_unambiguous, unambiguous}
pub use Rattle.wasm_base.proofs.Words.{AppendsMinimal, both_grammars, Decodes, HasEncoding, HasRead, Rejects, RejectsWhole, all_appended, ap, arith, byte_unambiguous, bytes_eq-Decides, common_steps, contains_more}
pub use Rattle.wasm_base.proofs.Words.{eqb-false, eqb-true, fault_stays, front_encoded, front_then, length, longest, loop_decodes, loop_rejects, map, member_encoded, members, members_encoded}
pub use Rattle.wasm_base.proofs.Words.{memory_stays, name, next_appended, not_from_Decides, on_ok, on_ok_both, optional, padded_of, refl, rules, size_prefixed_encoding, stays_short, subst}
pub use Rattle.wasm_base.proofs.Words.{such_unambiguous, sym, tagged_begins, take, to_z-of_z, true, unambiguous_padded, unsigned_encoding, vec_appended, vec_rejects_count, ◌++◌, ◌<◌, ◌∙◌, ◌∷◌, ◌≡◌}
pub use Rattle.wasm_base.proofs.Words.{◌≤◌}
pub use Rattle.wasm_custom.proofs.AddingLaws.{adds_two, adds_two_from}
pub use Rattle.wasm_custom.proofs.Calls.{parts, sections}
pub use Rattle.wasm_custom.proofs.ComdatLaws.{comdat_none, comdat_of_list}
pub use Rattle.wasm_custom.proofs.CoreDumpLaws.{instance_decodes, instance_none, process_back, process_fills, process_none, process_rejects}
pub use Rattle.wasm_custom.proofs.CoreStackLaws.{f32_decodes, f32_none, f64_decodes, f64_none, frame_decodes, frame_no_locals, frame_no_location, frame_no_stack, i32_decodes, i32_none, i64_decodes}
pub use Rattle.wasm_custom.proofs.CoreStackLaws.{i64_none, stack_fills, stack_no_frames, stack_none, stack_stored, value_none}
pub use Rattle.wasm_custom.proofs.CustomLaws.{custom_back, encodable_of, raw_back}
pub use Rattle.wasm_custom.proofs.DecodeMarked.{marked_none}
pub use Rattle.wasm_custom.proofs.DecodeNamed.{counted_decodes, counted_more, counted_none, counted_rejects, name_none, name_other}
pub use Rattle.wasm_custom.proofs.DylinkLaws.{dylink_begins, dylink_none, export_flags_none, exports_decodes, exports_none, import_flags_none, imports_decodes, imports_none, memory_decodes, memory_none}
pub use Rattle.wasm_custom.proofs.DylinkLaws.{exports_encoded, imports_encoded, memory_encoded, needed_decodes, needed_encoded, needed_none, needs_none, paths_decodes, paths_encoded, paths_none, section_fills, section_none, section_rejects}
pub use Rattle.wasm_custom.proofs.EntriesLaws.{counted_appended, stored_back, same_encodable}
pub use Rattle.wasm_custom.proofs.FeatureLaws.{prefix_none}
pub use Rattle.wasm_custom.proofs.HintLaws.{hint_decodes, hint_none, hint_rejects, hint_value_none}
pub use Rattle.wasm_custom.proofs.LinkLaws.{comdats_decodes, comdats_none, inits_decodes, inits_none, link_begins, link_none, links_fill, links_no_version, links_none, no_links, segments_decodes}
pub use Rattle.wasm_custom.proofs.LinkLaws.{arch_encoded, comdats_encoded, segments_encoded, segments_none, symbols_decodes, symbols_encoded, symbols_none, vector_appended, vector_encodable, version_none}
pub use Rattle.wasm_custom.proofs.ListLaws.{contains_none, contains_one_more, is_vector, list_more, name_encodable, named_encoding_of, names_inside}
pub use Rattle.wasm_custom.proofs.NameLaws.{indirect_appended, indirect_encoded, map_appended, map_encoded, names_fill, names_none, no_module, no_names, subsection_decodes, subsection_none}
pub use Rattle.wasm_custom.proofs.NameLaws.{subsection_not_size_prefixed, subsection_rejects}
pub use Rattle.wasm_custom.proofs.SegmentLaws.{segment_none}
pub use Rattle.wasm_custom.proofs.SingleLaws.{build_id_back, debug_file_back, single_fills, single_none, single_rejects, source_map_back}
pub use Rattle.wasm_custom.proofs.SymbolLaws.{data_no_name, data_none, definition_decodes, definition_none, function_decodes, function_none, global_decodes, global_none, indexed_given}
pub use Rattle.wasm_custom.proofs.SymbolLaws.{indexed_kind_encoded, indexed_no_index, indexed_no_name, indexed_none, number_encoded, of_data_decodes, of_data_none, of_section_decodes, of_section_none}
pub use Rattle.wasm_custom.proofs.SymbolLaws.{symbol_none, table_decodes, table_none, tag_symbol_decodes, tag_symbol_none}
pub use Rattle.wasm_custom.specs.{IsEncodableNamed, core_name, debug_file_name, dylink_item, dylink_view, given_name, held_by, id_of, indexed, inside, inside_view, kind_as, kind_code, link, link_view}
pub use Rattle.wasm_custom.specs.{name_item_view, names_view, of_data, of_section, source_map_name, stack_name, symbol, symbol_view, value}
pub use Rattle.wasm_custom.specs.declared.symbols.SymbolKind.TheVariants.{Function, Global, Table, Tag}
