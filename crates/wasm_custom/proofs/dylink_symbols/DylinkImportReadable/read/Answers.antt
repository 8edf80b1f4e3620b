use Rattle.wasm_custom.proofs.Common.{fault_stays, import_flags_none}
use Rattle.wasm_custom.proofs.dylink_symbols.DylinkImportReadable.read.Goals as goal

pub returns-in_err-module_name-clause-none : goal.returns-in_err-module_name-clause-none
returns-in_err-module_name-clause-none g c = fault_stays c.from_residual.result _ c.from_residual.ensures.1 λ n. import_flags_none c.args.bytes.now (c.in_err-module_name.ensures.none n)
