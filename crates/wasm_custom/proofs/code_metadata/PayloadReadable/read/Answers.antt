use Rattle.wasm_base.proofs.Words.{fault_stays, filled_none}
use Rattle.wasm_custom.proofs.code_metadata.PayloadReadable.read.Goals as goal

pub returns-in_err-content-clause-none : goal.returns-in_err-content-clause-none
returns-in_err-content-clause-none g c = fault_stays c.from_residual.result _ c.from_residual.ensures.1 λ n. filled_none _ c.args.bytes.now (c.in_err-content.ensures.none n)
