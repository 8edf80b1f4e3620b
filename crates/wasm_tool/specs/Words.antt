-- This file re-exports definitions that the specs of dependent crates use.
pub use Rattle.wasm_tool.specs.Lines.{Script, first_script, versioned_script}
pub use Rattle.wasm_tool.specs.Recipe.{entries_of, sections_of}
unfoldable pub use Rattle.wasm_tool.specs.Recipe.{IsGood, recipe_module}
pub use Rattle.wasm_tool.specs.Steps.{Explains}
