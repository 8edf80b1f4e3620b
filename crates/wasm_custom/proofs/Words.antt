-- This file re-exports what the proofs of dependent crates use.
pub use Rattle.wasm_custom.proofs.Calls.{adds_comdat, adds_comdat_symbol, adds_comdats, adds_core_module, adds_feature, adds_field, adds_frame, adds_frame_of, adds_hints, adds_hints_of, adds_init}
pub use Rattle.wasm_custom.proofs.Calls.{adds_inits, adds_inside, adds_instance, adds_instance_of, adds_module_name, adds_name, adds_names, adds_names_inside, adds_object_symbol, adds_object_symbols}
pub use Rattle.wasm_custom.proofs.Calls.{adds_object_target, adds_other_names, adds_raw_names, adds_raw_names_inside, adds_segment, adds_segments, adds_symbol, adds_symbols, adds_target, adds_value}
pub use Rattle.wasm_custom.proofs.Calls.{array_gives, copied_gives, encodes_custom, encodes_entries, gains_build_id, gains_debug_file, gains_features, gains_given, gains_given_raw, gains_hints}
pub use Rattle.wasm_custom.proofs.Calls.{gains_instances, gains_linking, gains_modules, gains_names, gains_names_padded, gains_objects, gains_process, gains_producers, gains_source_map, gains_stack}
pub use Rattle.wasm_custom.proofs.Calls.{new_comdat_symbols, new_comdats, new_features, new_field, new_hints, new_indirect_map, new_inits, new_instances, new_linking, new_map, new_modules, new_names}
pub use Rattle.wasm_custom.proofs.Calls.{new_object_symbols, new_objects, new_producers, new_segments, new_stack, new_symbols, vec_gives, adds_dylink_export, adds_dylink_import, adds_dylink_memory}
pub use Rattle.wasm_custom.proofs.Calls.{adds_exports_flags, adds_folder, adds_imports_flags, adds_library, adds_needed, adds_runtime_path, gains_dylink, new_dylink, new_dylink_exports}
pub use Rattle.wasm_custom.proofs.Calls.{new_dylink_imports, new_needed, new_runtime_path, adds_relocation, gains_relocations, new_relocations, adds_hinted, adds_hinted_of, gains_hinted, new_hinted}
pub use Rattle.wasm_custom.proofs.CoreDumpLaws.{core_whole, instances_section, modules_section}
pub use Rattle.wasm_custom.proofs.CoreStackLaws.{stack_whole}
pub use Rattle.wasm_custom.proofs.DylinkLaws.{dylink_section}
pub use Rattle.wasm_custom.proofs.FeatureLaws.{features_section}
pub use Rattle.wasm_custom.proofs.HintLaws.{hints_section}
pub use Rattle.wasm_custom.proofs.LinkLaws.{linking_section, object_section}
pub use Rattle.wasm_custom.proofs.ListLaws.{list_cut}
pub use Rattle.wasm_custom.proofs.MetadataLaws.{call_targets_section, frequencies_section, frequency_laws, order_laws, orders_section, targets_laws}
pub use Rattle.wasm_custom.proofs.NameLaws.{names_section}
pub use Rattle.wasm_custom.proofs.ProducerLaws.{producers_section}
pub use Rattle.wasm_custom.proofs.RelocationLaws.{relocations_whole}
pub use Rattle.wasm_custom.proofs.SingleLaws.{build_id_whole, debug_file_whole, source_map_whole}
pub use Rattle.wasm_custom.specs.CodeMetadata.{call_targets_name, call_targets_payload, call_targets_view, frequencies_name, frequencies_payload, frequencies_view, orders_name, orders_payload, orders_view}
pub use Rattle.wasm_custom.specs.CoreDumps.{core_name, core_payload, instance_view, instances_name, instances_payload, modules_name, modules_payload}
pub use Rattle.wasm_custom.specs.CoreStacks.{stack_name, stack_payload}
pub use Rattle.wasm_custom.specs.Customs.{IsEncodableNamed, begins_with, named_payload, subsection_encoding}
unfoldable pub use Rattle.wasm_custom.specs.Customs.{named_encoding}
pub use Rattle.wasm_custom.specs.DebugFiles.{build_id_name, build_id_payload, debug_file_name, debug_file_payload, source_map_name, source_map_payload}
pub use Rattle.wasm_custom.specs.Dylink.{dylink_name, dylink_payload}
pub use Rattle.wasm_custom.specs.Hints.{hints_name, hints_payload, hints_view}
pub use Rattle.wasm_custom.specs.Linking.{linking_name, linking_payload, object_payload}
pub use Rattle.wasm_custom.specs.Names.{ContainsNames, Map, Module, NameItem, indirect_map, name_map, name_name, name_payload, subsection}
pub use Rattle.wasm_custom.specs.Producers.{producers_name, producers_payload}
pub use Rattle.wasm_custom.specs.Relocations.{relocations_payload, relocations_prefix}
pub use Rattle.wasm_custom.specs.TargetFeatures.{features_name, features_payload}
