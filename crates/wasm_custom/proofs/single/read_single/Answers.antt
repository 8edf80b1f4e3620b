use Rattle.wasm_custom.proofs.Common.{fault_stays, single_none, single_rejects, single_fills}
use Rattle.wasm_custom.proofs.single.read_single.Goals as goal

pub returns-in_err-rest-clause-none : goal.returns-in_err-rest-clause-none
returns-in_err-rest-clause-none g c = fault_stays c.from_residual.result _ c.from_residual.ensures.1 λ n. single_none c.args.name.now _ c.args.bytes.now (c.in_err-rest.ensures.none n)

pub returns-in_err-value-clause-none : goal.returns-in_err-value-clause-none
returns-in_err-value-clause-none g c = fault_stays c.from_residual-in_err-value.result _ c.from_residual-in_err-value.ensures.1 λ n. single_rejects c.args.name.now _ c.args.bytes.now _ c.in_ok-rest.ensures.found (c.in_err-value.ensures.none n)

pub returns-clause-found : goal.returns-clause-found
returns-clause-found g c = single_fills c.args.name.now _ c.args.bytes.now _ _ c.in_ok-rest.ensures.found c.in_ok-value.ensures.found
