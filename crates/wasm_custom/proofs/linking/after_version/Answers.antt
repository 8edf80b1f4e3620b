use Rattle.wasm_custom.proofs.Common.{fault_stays, version_none}
use Rattle.wasm_custom.proofs.linking.after_version.Goals as goal

pub returns-in_err-known-clause-none : goal.returns-in_err-known-clause-none
returns-in_err-known-clause-none g c = fault_stays c.from_residual.result _ c.from_residual.ensures.1 λ n. version_none c.args.bytes.now (c.in_err-known.ensures.none n)
