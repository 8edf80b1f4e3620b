-- This file re-exports definitions that the specs of dependent crates use.
pub use Rattle.wasm_sections.specs.DataSegments.{DataItem, active_encoding, data_count_decoding, data_decoding, data_item, segment_view}
pub use Rattle.wasm_sections.specs.Elements.{ElementItem, element, element_decoding, element_view}
pub use Rattle.wasm_sections.specs.Exports.{ExportItem, export, export_decoding, item_of, kind_code}
pub use Rattle.wasm_sections.specs.Functions.{function_decoding, start_decoding}
pub use Rattle.wasm_sections.specs.Globals.{GlobalItem, global_decoding, global_encoding, global_item, global_view}
pub use Rattle.wasm_sections.specs.Imports.{ImportItem, alike, import_decoding, import_format, imports_item, single}
pub use Rattle.wasm_sections.specs.Memories.{memory_decoding, memory_encoding, memory_type}
pub use Rattle.wasm_sections.specs.Tables.{TableItem, table_decoding, table_item, table_view}
pub use Rattle.wasm_sections.specs.Tags.{tag_decoding, tag_type}
