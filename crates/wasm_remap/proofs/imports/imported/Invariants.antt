use Rattle.wasm_base.proofs.Words.{◌≡◌, map, take}
use Rattle.wasm_sections.specs.Imports.{imports_item}
use Rattle.wasm_remap.specs.Imported.{imported}
use Rattle.wasm_remap.proofs.imports.imported.Given as goal

abbrev pub invariant-loop-entry : goal.invariant-loop-entry
invariant-loop-entry g l = l.count ≡ imported l.space (map imports_item (take l.entry-index l.entries))
