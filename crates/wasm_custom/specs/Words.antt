-- This file re-exports definitions that the specs of dependent crates use.
pub use Rattle.wasm_custom.specs.CodeMetadata.{Frequencies, HintedTargets, HintsIn, Orders, TargetItem, call_targets_decoding, call_targets_name, call_targets_payload, call_targets_view}
pub use Rattle.wasm_custom.specs.CodeMetadata.{frequencies_decoding, frequencies_name, frequencies_payload, frequencies_view, orders_decoding, orders_name, orders_payload, orders_view}
pub use Rattle.wasm_custom.specs.Comdats.{Comdat, comdat_view}
pub use Rattle.wasm_custom.specs.CoreDumps.{Instance, core_decoding, core_name, core_payload, instance_view, instances_decoding, instances_name, instances_payload, modules_decoding, modules_name}
pub use Rattle.wasm_custom.specs.CoreDumps.{modules_payload}
pub use Rattle.wasm_custom.specs.CoreStacks.{StackFrame, stack_decoding, stack_frame_view, stack_name, stack_payload}
pub use Rattle.wasm_custom.specs.Customs.{IsEncodableNamed, begins_with, custom_decoding, subsection_encoding}
unfoldable pub use Rattle.wasm_custom.specs.Customs.{named_encoding}
pub use Rattle.wasm_custom.specs.DebugFiles.{build_id_decoding, build_id_name, build_id_payload, debug_file_decoding, debug_file_name, debug_file_payload, source_map_decoding, source_map_name}
pub use Rattle.wasm_custom.specs.DebugFiles.{source_map_payload}
pub use Rattle.wasm_custom.specs.Dylink.{DylinkExport, DylinkImport, DylinkItem, ExportFlags, ImportFlags, Memory, Needed, RuntimePath, dylink_decoding, dylink_name, dylink_payload, dylink_view}
pub use Rattle.wasm_custom.specs.Hints.{Hints, hints_decoding, hints_name, hints_payload, hints_view}
pub use Rattle.wasm_custom.specs.Linking.{Comdats, InitFunctions, LinkItem, Segments, Symbols, Target, link_view, linking_decoding, linking_name, linking_payload, object_decoding, object_payload}
unfoldable pub use Rattle.wasm_custom.specs.Lists.{list_encoding}
pub use Rattle.wasm_custom.specs.Names.{Indirect, Map, Module, NameItem, Naming, Other, name_item_view, name_name, name_payload}
pub use Rattle.wasm_custom.specs.Producers.{Field, field_view, producers_decoding, producers_name, producers_payload}
pub use Rattle.wasm_custom.specs.Relocations.{Relocations, relocations_decoding, relocations_name, relocations_payload, relocations_prefix}
pub use Rattle.wasm_custom.specs.Segments.{SegmentInfo, segment_view}
pub use Rattle.wasm_custom.specs.Symbols.{Symbol, indexed, of_data, of_section}
pub use Rattle.wasm_custom.specs.TargetFeatures.{Feature, feature_view, features_decoding, features_name, features_payload}
