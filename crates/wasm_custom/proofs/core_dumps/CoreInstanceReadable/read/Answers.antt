use Rattle.wasm_custom.proofs.Common.{fault_stays, instance_none, instance_decodes}
use Rattle.wasm_custom.proofs.core_dumps.CoreInstanceReadable.read.Goals as goal

pub returns-in_err-module_index-clause-none : goal.returns-in_err-module_index-clause-none
returns-in_err-module_index-clause-none g c = fault_stays c.from_residual.result _ c.from_residual.ensures.1 λ n. instance_none c.args.bytes.now (c.in_err-module_index.ensures.none n)

pub returns-clause-found : goal.returns-clause-found
returns-clause-found g c = search (instance_decodes, c.in_ok-module_index.ensures.found)
