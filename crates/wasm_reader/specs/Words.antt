-- This file re-exports definitions that the specs of dependent crates use.
pub use Rattle.wasm_reader.specs.Iterating.{Iterating, Located, LocatedBody, ahead, known_kind_of}
pub use Rattle.wasm_reader.specs.Kinds.{Bodies, Contents, Functions, content, contents_of, kind_in, kind_numbered, number_in}
pub use Rattle.wasm_reader.specs.Modules.{HasLines, StopsAt}
pub use Rattle.wasm_reader.specs.Outlines.{EndsAt, ExplainsHeader, HasOutline, IsSection, Section, bytes_of, section_kind_of}
pub use Rattle.wasm_reader.specs.Sections.{Shortens, ShortensIn, Takes, TakesIn, section}
pub use Rattle.wasm_reader.specs.Shortening.{Explains, ShortensModule}
