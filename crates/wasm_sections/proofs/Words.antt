-- This file re-exports what the proofs of dependent crates use.
pub use Rattle.wasm_sections.proofs.Calls.{adds_active, adds_active_padded, adds_alike, adds_element, adds_element_padded, adds_export, adds_expressions, adds_functions, adds_global}
pub use Rattle.wasm_sections.proofs.Calls.{adds_global_padded, adds_passive, adds_table, adds_table_with_init, adds_table_with_init_padded, array_added, copied_added, gains_elements, gains_exports}
pub use Rattle.wasm_sections.proofs.Calls.{gains_functions, gains_globals, gains_imports, gains_memories, gains_number, gains_segments, gains_tables, gains_tags, new_elements, new_exports}
pub use Rattle.wasm_sections.proofs.Calls.{new_functions, new_globals, new_imports, new_memories, new_segments, new_tables, new_tags}
pub use Rattle.wasm_sections.proofs.DataLaws.{adds_these, segments_section}
pub use Rattle.wasm_sections.proofs.ElementLaws.{elements_section}
pub use Rattle.wasm_sections.proofs.ExportLaws.{export_short, exports_section}
pub use Rattle.wasm_sections.proofs.FunctionLaws.{functions_section}
pub use Rattle.wasm_sections.proofs.GlobalLaws.{globals_section}
pub use Rattle.wasm_sections.proofs.ImportLaws.{imports_section}
pub use Rattle.wasm_sections.proofs.MemoryLaws.{memories_section, memory_encodes, memory_is}
pub use Rattle.wasm_sections.proofs.Prefixes.{prefixed_decodes}
pub use Rattle.wasm_sections.proofs.TableLaws.{tables_section}
pub use Rattle.wasm_sections.proofs.TagLaws.{tag_encodes, tag_is, tags_section}
pub use Rattle.wasm_sections.specs.DataSegments.{active_encoding, data_item}
pub use Rattle.wasm_sections.specs.Elements.{active, element, functions, passive}
pub use Rattle.wasm_sections.specs.Exports.{IsEncodableExport, IsExport, export, export_encoding, item_of}
pub use Rattle.wasm_sections.specs.Globals.{global_item}
pub use Rattle.wasm_sections.specs.Imports.{import_format, import_item}
pub use Rattle.wasm_sections.specs.Memories.{ContainsMemories, IsMemory, memory_encoding, memory_type}
pub use Rattle.wasm_sections.specs.Tables.{table_item}
pub use Rattle.wasm_sections.specs.Tags.{tag_encoding, tag_type}
