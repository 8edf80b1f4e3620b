use Rattle.wasm_immediates.proofs.Common.{fault_stays, ordering_none}
use Rattle.wasm_immediates.proofs.memory.OrderingReadable.read.Goals as goal

pub returns-in_err-byte-clause-none : goal.returns-in_err-byte-clause-none
returns-in_err-byte-clause-none g c = fault_stays c.from_residual.result _ c.from_residual.ensures.1 λ n. ordering_none c.args.bytes.now (c.in_err-byte.ensures.none n)
