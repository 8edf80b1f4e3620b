use Rattle.wasm_base.proofs.Faults.{fault_stays}
use Rattle.wasm_base.proofs.DecodeSizePrefixed.{name_none, name_decodes, name_faulty}
use Rattle.wasm_base.proofs.names.RefStrReadable.read.Goals as goal

pub returns-in_err-encoding-clause-none : goal.returns-in_err-encoding-clause-none
returns-in_err-encoding-clause-none g c = fault_stays c.from_residual.result _ c.from_residual.ensures.1 λ n. name_none c.args.bytes.now (c.in_err-encoding.ensures.none n)

pub returns-in-Ok-clause-found : goal.returns-in-Ok-clause-found
returns-in-Ok-clause-found g c = search (name_decodes, c.in_ok-encoding.ensures.found, c.in-Ok.ensures.cases.0, c.in-Ok.ensures.cases.1)

pub returns-in-Err-clause-none : goal.returns-in-Err-clause-none
returns-in-Err-clause-none g c = λ n. name_faulty c.args.bytes.now _ _ c.in_ok-encoding.ensures.found c.in-Err.ensures.cases.0
