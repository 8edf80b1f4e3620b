use Rattle.wasm_code.proofs.Common.{fault_stays, body_no_runs, runs_read}
use Rattle.wasm_code.proofs.walk.Instructions.begin_body.Goals as goal

pub returns-clause-found : goal.returns-clause-found
returns-clause-found g c = runs_read c.args.bytes.now c.in_ok-runs.rest.now c.in_ok-runs.runs.items c.in_ok-runs.ensures.found

pub returns-in_err-runs-clause-none : goal.returns-in_err-runs-clause-none
returns-in_err-runs-clause-none g c = fault_stays c.from_residual.result _ c.from_residual.ensures.1 λ n. body_no_runs c.args.bytes.now (c.in_err-runs.ensures.none n)
