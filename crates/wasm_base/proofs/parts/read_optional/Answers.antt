use Rattle.wasm_base.proofs.Faults.{fault_stays}
use Rattle.wasm_base.proofs.Tags.{optional_rejects}
use Rattle.wasm_base.proofs.parts.read_optional.Goals as goal

pub returns-in_err-value-clause-none : goal.returns-in_err-value-clause-none
returns-in_err-value-clause-none g c = fault_stays c.from_residual.result _ c.from_residual.ensures.1 λ n. optional_rejects g.T.Layout.format c.args.flag c.args.bytes.now c.if-flag.true (c.in_err-value.ensures.none n)
