use Rattle.wasm_sections.proofs.Common.{arith, subst, take_all, All, IsExport}
use Rattle.wasm_sections.proofs.laws.plain_exports.Goals as goal

pub returns : goal.returns
returns c = subst (All IsExport) (take_all c.loop-export.export-index c.args.exports.now (omega arith)) c.loop-export.invariant
