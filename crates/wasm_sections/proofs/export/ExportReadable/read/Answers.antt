use Rattle.wasm_sections.proofs.Common.{fault_stays, export_none, export_decodes}
use Rattle.wasm_sections.proofs.export.ExportReadable.read.Goals as goal

pub returns-in_err-name-clause-none : goal.returns-in_err-name-clause-none
returns-in_err-name-clause-none g c = fault_stays c.from_residual.result _ c.from_residual.ensures.1 λ n. export_none c.args.bytes.now (c.in_err-name.ensures.none n)

pub returns-clause-found : goal.returns-clause-found
returns-clause-found g c = search (export_decodes, c.in_ok-name.ensures.found)
