-- This file re-exports what the proofs of dependent crates use.
pub use Rattle.wasm_reader.proofs.Causes.{cause_of_memory, cause_stays}
pub use Rattle.wasm_reader.proofs.Calls.{decodes_padded, decodes_written, padded_not_rejected, shortens_padded, shortens_written, written, written_padded, written_not_rejected}
pub use Rattle.wasm_reader.specs.Kinds.{Bodies, Core, CoreInstances, CoreModules, CoreStack, Custom, DataCount, Elements, Exports, Functions, Globals, Hints, Imports, Linking, Memories, Names}
pub use Rattle.wasm_reader.specs.Kinds.{Producers, Segments, Start, Tables, Tags, Types}
pub use Rattle.wasm_reader.specs.Outlines.{AreOutlines, HasOutline, IsNameOf, IsOutline, IsSection, Section, bytes_of}
pub use Rattle.wasm_reader.specs.Sections.{section}
