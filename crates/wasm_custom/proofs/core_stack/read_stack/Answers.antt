use Rattle.wasm_custom.proofs.Common.{fault_stays, stack_fills, stack_none, stack_no_frames}
use Rattle.wasm_custom.proofs.core_stack.read_stack.Goals as goal

pub returns-in_err-rest-clause-none : goal.returns-in_err-rest-clause-none
returns-in_err-rest-clause-none g c = fault_stays c.from_residual.result _ c.from_residual.ensures.1 λ n. stack_none c.args.bytes.now (c.in_err-rest.ensures.none n)

pub returns-in_err-frames-clause-none : goal.returns-in_err-frames-clause-none
returns-in_err-frames-clause-none g c = fault_stays c.from_residual-in_err-frames.result _ c.from_residual-in_err-frames.ensures.1 λ n.
    stack_no_frames c.args.bytes.now _ _ _ c.in_ok-rest.ensures.found c.in_ok-thread.ensures.found (c.in_err-frames.ensures.none n)

pub returns-clause-found : goal.returns-clause-found
returns-clause-found g c = stack_fills c.args.bytes.now _ _ _ _ c.in_ok-rest.ensures.found c.in_ok-thread.ensures.found c.in_ok-frames.ensures.found
