-- This file re-exports what the proofs of this crate's functions use.
pub use Rattle.std.specs.Prelude.{IfErr}
pub use Rattle.wasm_base.proofs.SectionLaws.{items, padded_unambiguous, payloads, unambiguous}
pub use Rattle.wasm_base.proofs.Words.{All, Appends, AppendsMinimal, builders_alone, Decodes, HasEncodableSize, HasEncoding, IfOk, IsEncodableSection, List, Rejects, all_appended, ap, arith, common_steps}
pub use Rattle.wasm_base.proofs.Words.{contains_more, counted_decodes, fault_stays, front_appended, front_encoded, front_then, longest, map, member_encoded, members, members_encoded, next_appended}
pub use Rattle.wasm_base.proofs.Words.{not_from_Decides, on_ok, padded_of, ref_unambiguous, refl, rules, size_prefixed_encoding, stays_short, subst, sym, take, take_all, then_decodes}
pub use Rattle.wasm_base.proofs.Words.{then_rejects_first, then_rejects_second, u32-payload, unambiguous_padded, unsigned_encoding, vec_appended, ◌++◌, ◌∙◌, ◌∷◌, ◌≡◌, ◌≢◌, ◌≤◌}
pub use Rattle.wasm_base.specs.declared.fault.ReadFault.TheVariants.{Memory}
pub use Rattle.wasm_insn.proofs.Words.{Plain}
pub use Rattle.wasm_sections.proofs.Calls.{parts, sections}
pub use Rattle.wasm_sections.proofs.DataLaws.{bytes_none, bytes_read, first_decodes, first_none, other_decodes, other_memory, other_no_memory, other_none, other_zero, passive_decodes, passive_none}
pub use Rattle.wasm_sections.proofs.DataLaws.{placed_encoded, same_encodings, segment_none}
pub use Rattle.wasm_sections.proofs.DecodeLimits.{limits_no_maximum, limits_no_minimum, limits_none, limits_read, memory_decodes, memory_no_maximum, memory_no_minimum, memory_none}
pub use Rattle.wasm_sections.proofs.ElementLaws.{element_appended, element_decodes, element_no_list, element_no_segment_mode, element_none, elements_encoded, expressions_explicit_appended}
pub use Rattle.wasm_sections.proofs.ElementLaws.{expressions_implicit, expressions_implicit_appended, expressions_none, expressions_none_implicit, expressions_read, flag_none, flag_unknown}
pub use Rattle.wasm_sections.proofs.ElementLaws.{functions_behind, functions_explicit_appended, functions_implicit, functions_implicit_appended, functions_no_kind, functions_none}
pub use Rattle.wasm_sections.proofs.ElementLaws.{functions_none_implicit, functions_other, functions_read, functions_unique, segment_mode_declared, segment_mode_implicit, segment_mode_in_table}
pub use Rattle.wasm_sections.proofs.ElementLaws.{segment_mode_no_offset, segment_mode_no_table, segment_mode_passive}
pub use Rattle.wasm_sections.proofs.ExportLaws.{export_decodes, export_kind_none, export_none}
pub use Rattle.wasm_sections.proofs.FunctionLaws.{two_bytes}
pub use Rattle.wasm_sections.proofs.GlobalLaws.{flags_none, flags_unknown, item_decodes, item_none, type_decodes, type_none}
pub use Rattle.wasm_sections.proofs.ImportLaws.{alike_decodes, alike_no_names, alike_no_type, entity_exact, entity_function, entity_global, entity_memory, entity_no_exact, entity_no_function}
pub use Rattle.wasm_sections.proofs.ImportLaws.{entity_no_global, entity_no_memory, entity_no_table, entity_no_tag, entity_none, entity_table, entity_tag, group_unknown, import_appended}
pub use Rattle.wasm_sections.proofs.ImportLaws.{import_encodable, import_no_module, named_decodes, named_none, single_decodes, single_no_name, single_no_type}
pub use Rattle.wasm_sections.proofs.NumberLaws.{number_unique}
pub use Rattle.wasm_sections.proofs.TableLaws.{table_decodes, table_no_second, table_no_type, table_no_with, table_none, table_with}
pub use Rattle.wasm_sections.proofs.TagLaws.{tag_decodes, tag_kind_none, tag_kind_unknown, tag_none}
pub use Rattle.wasm_sections.proofs.ViewedLists.{appends_same, encodable_viewed, viewed_encodable, viewed_encoding}
pub use Rattle.wasm_sections.specs.{IsEncodableImport, IsExport, are_expressions, compact_item, element_flag_view, element_view, elements_as, entity_encoding, flag_code, flags_view, has_kind}
pub use Rattle.wasm_sections.specs.{import_encoding, import_format, imports_item, instructions_view, list_view, named_encoding}
