use Rattle.wasm_base.proofs.Faults.{fault_stays}
use Rattle.wasm_base.proofs.DecodeTypes.{abstract_none}
use Rattle.wasm_base.proofs.types.AbstractHeapTypeReadable.read.Goals as goal

pub returns-in_err-byte-clause-none : goal.returns-in_err-byte-clause-none
returns-in_err-byte-clause-none g c = fault_stays c.from_residual.result _ c.from_residual.ensures.1 λ n. abstract_none c.args.bytes.now (c.in_err-byte.ensures.none n)
