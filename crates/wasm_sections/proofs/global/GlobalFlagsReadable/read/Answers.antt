use Rattle.wasm_sections.proofs.Common.{fault_stays, flags_none, flags_unknown}
use Rattle.wasm_sections.proofs.global.GlobalFlagsReadable.read.Goals as goal

pub returns-in_err-byte-clause-none : goal.returns-in_err-byte-clause-none
returns-in_err-byte-clause-none g c = fault_stays c.from_residual.result _ c.from_residual.ensures.1 λ n. flags_none c.args.bytes.now (c.in_err-byte.ensures.none n)

pub returns-then-byte-ge4-clause-none : goal.returns-then-byte-ge4-clause-none
returns-then-byte-ge4-clause-none g c = λ n. flags_unknown c.args.bytes.now _ _ c.in_ok-byte.ensures.found c.if-byte-ge4.true
