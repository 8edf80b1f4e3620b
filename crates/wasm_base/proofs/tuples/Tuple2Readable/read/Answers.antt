use Rattle.wasm_base.proofs.Faults.{fault_stays}
use Rattle.wasm_base.proofs.DecodingSteps.{then_rejects_first, then_rejects_second, then_decodes}
use Rattle.wasm_base.proofs.tuples.Tuple2Readable.read.Goals as goal

pub returns-in_err-first-clause-none : goal.returns-in_err-first-clause-none
returns-in_err-first-clause-none g c = fault_stays c.from_residual.result _ c.from_residual.ensures.1 λ n. then_rejects_first (c.in_err-first.ensures.none n)

pub returns-in_err-second-clause-none : goal.returns-in_err-second-clause-none
returns-in_err-second-clause-none g c = fault_stays c.from_residual-in_err-second.result _ c.from_residual-in_err-second.ensures.1 λ n. then_rejects_second c.laws.ensures c.in_ok-first.ensures.found (c.in_err-second.ensures.none n)

pub returns-clause-found : goal.returns-clause-found
returns-clause-found g c = search (then_decodes, c.in_ok-first.ensures.found, c.in_ok-second.ensures.found)
