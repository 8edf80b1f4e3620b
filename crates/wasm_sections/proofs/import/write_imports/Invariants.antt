use Rattle.wasm_sections.proofs.Common.{map, take, members, AppendsMinimal, builders_alone, import_format, imports_item}
use Rattle.wasm_sections.proofs.import.write_imports.Given as goal

abbrev pub invariant-loop-import : goal.invariant-loop-import
invariant-loop-import g l = AppendsMinimal builders_alone (members import_format) (map imports_item (take l.import-index l.imports)) l.initial.sink.items l.sink.items
