use Rattle.wasm_code.proofs.Common.{fault_stays, body_fills_viewed, body_no_runs, body_no_code}
use Rattle.wasm_code.proofs.body.read_body.Goals as goal

pub returns-clause-found : goal.returns-clause-found
returns-clause-found g c = body_fills_viewed c.args.bytes.now c.in_ok-runs.rest.now c.in_ok-runs.runs.items _ c.in_ok-runs.ensures.found c.in_ok-code.ensures.found

pub returns-in_err-runs-clause-none : goal.returns-in_err-runs-clause-none
returns-in_err-runs-clause-none g c = fault_stays c.from_residual.result _ c.from_residual.ensures.1 λ n. body_no_runs c.args.bytes.now (c.in_err-runs.ensures.none n)

pub returns-in_err-code-clause-none : goal.returns-in_err-code-clause-none
returns-in_err-code-clause-none g c = fault_stays c.from_residual-in_err-code.result _ c.from_residual-in_err-code.ensures.1 λ n. body_no_code c.args.bytes.now _ _ c.in_ok-runs.ensures.found (c.in_err-code.ensures.none n)
