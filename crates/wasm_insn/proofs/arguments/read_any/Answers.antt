use Rattle.wasm_insn.proofs.Common.{fault_stays, shape_rejects}
use Rattle.wasm_insn.proofs.arguments.read_any.Goals as goal

pub returns-in_err-rest-clause-none : goal.returns-in_err-rest-clause-none
returns-in_err-rest-clause-none g c = fault_stays c.from_residual-in_err-rest.result _ c.from_residual-in_err-rest.ensures.1 λ n. shape_rejects c.args.shape _ c.args.bytes.now c.parts-wanted.ensures (c.in_err-rest.ensures.none n)
