use Rattle.wasm_custom.proofs.Common.{fault_stays, hint_value_none}
use Rattle.wasm_custom.proofs.hints.HintValueReadable.read.Goals as goal

pub returns-in_err-value-clause-none : goal.returns-in_err-value-clause-none
returns-in_err-value-clause-none g c = fault_stays c.from_residual.result _ c.from_residual.ensures.1 λ n. hint_value_none c.args.bytes.now (c.in_err-value.ensures.none n)
