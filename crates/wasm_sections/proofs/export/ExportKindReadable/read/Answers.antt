use Rattle.wasm_sections.proofs.Common.{fault_stays, export_kind_none}
use Rattle.wasm_sections.proofs.export.ExportKindReadable.read.Goals as goal

pub returns-in_err-code-clause-none : goal.returns-in_err-code-clause-none
returns-in_err-code-clause-none g c = fault_stays c.from_residual.result _ c.from_residual.ensures.1 λ n. export_kind_none c.args.bytes.now (c.in_err-code.ensures.none n)
