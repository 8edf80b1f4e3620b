use Rattle.wasm_custom.proofs.Common.{fault_stays, needs_none}
use Rattle.wasm_custom.proofs.dylink_symbols.DylinkMemoryReadable.read.Goals as goal

pub returns-in_err-memory_size-clause-none : goal.returns-in_err-memory_size-clause-none
returns-in_err-memory_size-clause-none g c = fault_stays c.from_residual.result _ c.from_residual.ensures.1 λ n. needs_none c.args.bytes.now (c.in_err-memory_size.ensures.none n)
