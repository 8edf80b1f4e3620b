use Rattle.wasm_custom.proofs.Common.{fault_stays, process_none, process_fills, process_rejects}
use Rattle.wasm_custom.proofs.core_dumps.read_process.Goals as goal

pub returns-in_err-rest-clause-none : goal.returns-in_err-rest-clause-none
returns-in_err-rest-clause-none g c = fault_stays c.from_residual.result _ c.from_residual.ensures.1 λ n. process_none c.args.bytes.now (c.in_err-rest.ensures.none n)

pub returns-clause-found : goal.returns-clause-found
returns-clause-found g c = search (process_fills, c.in_ok-rest.ensures.found, c.in_ok-name.ensures.found)

pub returns-in_err-name-clause-none : goal.returns-in_err-name-clause-none
returns-in_err-name-clause-none g c = fault_stays c.from_residual-in_err-name.result _ c.from_residual-in_err-name.ensures.1 λ n. process_rejects c.args.bytes.now _ c.in_ok-rest.ensures.found (c.in_err-name.ensures.none n)
