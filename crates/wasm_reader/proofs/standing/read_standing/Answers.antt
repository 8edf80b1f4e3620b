use Rattle.wasm_reader.proofs.Common.{fault_stays, no_id, not_size_prefixed}
use Rattle.wasm_reader.proofs.standing.read_standing.Goals as goal

pub returns-in_err-id-clause-none : goal.returns-in_err-id-clause-none
returns-in_err-id-clause-none g c = fault_stays c.from_residual.result _ c.from_residual.ensures.1 λ n. no_id c.args.bytes.now (c.in_err-id.ensures.none n)

pub returns-in_err-payload-clause-none : goal.returns-in_err-payload-clause-none
returns-in_err-payload-clause-none g c = fault_stays c.from_residual-in_err-payload.result _ c.from_residual-in_err-payload.ensures.1 λ n. not_size_prefixed c.args.bytes.now _ _ c.in_ok-id.ensures.found (c.in_err-payload.ensures.none n)
