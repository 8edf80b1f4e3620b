use Rattle.wasm_code.proofs.Common.{fault_stays, on_ok, any_begins, body_no_runs, body_no_code}
use Rattle.wasm_base.proofs.Faults.{if_err_more}
use Rattle.wasm_code.proofs.WalkBodies.{body_walks}
use Rattle.wasm_code.proofs.body.walk_content.Goals as goal

pub returns-in_err-rest-clause-none : goal.returns-in_err-rest-clause-none
returns-in_err-rest-clause-none g c = fault_stays c.from_residual.result _ c.from_residual.ensures.1 λ n. body_no_runs c.args.bytes.now (c.in_err-rest.ensures.none n)

pub returns-clause-found : goal.returns-clause-found
returns-clause-found g c = on_ok c.walk_to_end.result _ _ c.walk_to_end.ensures.found λ h. body_walks _ c.args.bytes.now c.in_ok-rest.rest.now _ _ _ c.in_ok-rest.ensures.found h

pub returns-clause-none : goal.returns-clause-none
returns-clause-none g c = if_err_more c.walk_to_end.result (λ e none n. body_no_code c.args.bytes.now c.in_ok-rest.rest.now c.in_ok-rest.ensures.found.value c.in_ok-rest.ensures.found.decoded (none n)) c.walk_to_end.ensures.none

pub walk_to_end-requires : goal.walk_to_end-requires
walk_to_end-requires g c = record { begun = λ mode s x h. any_begins mode s x h }
