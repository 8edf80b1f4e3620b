use Rattle.wasm_types.proofs.Common.{fault_stays, mutable_none}
use Rattle.wasm_types.proofs.fields.MutableReadable.read.Goals as goal

pub returns-in_err-code-clause-none : goal.returns-in_err-code-clause-none
returns-in_err-code-clause-none g c = fault_stays c.from_residual.result _ c.from_residual.ensures.1 λ n. mutable_none c.args.bytes.now (c.in_err-code.ensures.none n)
