use Rattle.wasm_code.proofs.Common.{body, ◌∙◌, fault_stays, filled_decodes, filled_none, filled_rejects}
use Rattle.wasm_code.proofs.body.BodyReadable.read.Goals as goal

pub returns-in_err-content-clause-none : goal.returns-in_err-content-clause-none
returns-in_err-content-clause-none g c = fault_stays c.from_residual.result _ c.from_residual.ensures.1 λ n. filled_none body c.args.bytes.now (c.in_err-content.ensures.none n)

pub returns-in-Err-clause-none : goal.returns-in-Err-clause-none
returns-in-Err-clause-none g c = λ n. filled_rejects body c.args.bytes.now _ _ c.in_ok-content.ensures.found (c.in-Err.ensures.none (λ k. n (c.before-in-Err.ensures.cause ∙ k)))

pub returns-in-Ok-clause-found : goal.returns-in-Ok-clause-found
returns-in-Ok-clause-found g c = filled_decodes body c.args.bytes.now _ _ _ c.in_ok-content.ensures.found c.in-Ok.ensures.found
