use Rattle.wasm_insn.proofs.Common.{fault_stays, op_none}
use Rattle.wasm_insn.proofs.op.read_op.Goals as goal

pub returns-in_err-byte-clause-none : goal.returns-in_err-byte-clause-none
returns-in_err-byte-clause-none g c = fault_stays c.from_residual.result _ c.from_residual.ensures.1 λ n. op_none c.args.bytes.now (c.in_err-byte.ensures.none n)
