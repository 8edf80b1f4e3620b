use Rattle.wasm_base.proofs.Words.{fault_stays}
use Rattle.wasm_custom.proofs.marked.MarkedNameReadable.read.Goals as goal

pub returns-clause-found : goal.returns-clause-found
returns-clause-found g c = search c.in_ok-name.ensures.found

pub returns-in_err-name-clause-none : goal.returns-in_err-name-clause-none
returns-in_err-name-clause-none g c = fault_stays c.from_residual.result _ c.from_residual.ensures.1 λ n. c.in_err-name.ensures.none n
