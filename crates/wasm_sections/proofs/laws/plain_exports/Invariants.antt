use Rattle.wasm_sections.proofs.Common.{take, All, IsExport}
use Rattle.wasm_sections.proofs.laws.plain_exports.Given as goal

abbrev pub invariant-loop-export : goal.invariant-loop-export
invariant-loop-export l = All IsExport (take l.export-index l.exports)
