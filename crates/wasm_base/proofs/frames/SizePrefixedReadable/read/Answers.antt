use Rattle.wasm_base.proofs.Faults.{fault_stays}
use Rattle.wasm_base.proofs.DecodeSizePrefixed.{filled_none, filled_rejects}
use Rattle.wasm_base.proofs.frames.SizePrefixedReadable.read.Goals as goal

pub returns-in_err-content-clause-none : goal.returns-in_err-content-clause-none
returns-in_err-content-clause-none g c = fault_stays c.from_residual.result _ c.from_residual.ensures.1 λ n. filled_none _ c.args.bytes.now (c.in_err-content.ensures.none n)

pub returns-in_err-value-clause-none : goal.returns-in_err-value-clause-none
returns-in_err-value-clause-none g c = fault_stays c.from_residual-in_err-value.result _ c.from_residual-in_err-value.ensures.1 λ n. filled_rejects _ c.args.bytes.now _ _ c.in_ok-content.ensures.found (c.in_err-value.ensures.none n)
