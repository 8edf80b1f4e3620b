use Rattle.wasm_insn.proofs.Common.{fault_stays}
use Rattle.wasm_insn.proofs.DecodeArguments.{handles_none}
use Rattle.wasm_insn.proofs.arguments.read_handles.Goals as goal

pub returns-in_err-value-clause-none : goal.returns-in_err-value-clause-none
returns-in_err-value-clause-none g c = fault_stays c.from_residual.result _ c.from_residual.ensures.1 λ n. handles_none c.args.bytes.now (c.in_err-value.ensures.none n)
