use Rattle.wasm_custom.proofs.Common.{fault_stays, frame_decodes, frame_no_location, frame_no_locals, frame_no_stack}
use Rattle.wasm_custom.proofs.core_stack.CoreFrameReadable.read.Goals as goal

pub returns-in_err-instanceidx-clause-none : goal.returns-in_err-instanceidx-clause-none
returns-in_err-instanceidx-clause-none g c = fault_stays c.from_residual.result _ c.from_residual.ensures.1 λ n. frame_no_location c.args.bytes.now (c.in_err-instanceidx.ensures.none n)

pub returns-in_err-locals-clause-none : goal.returns-in_err-locals-clause-none
returns-in_err-locals-clause-none g c = fault_stays c.from_residual-in_err-locals.result _ c.from_residual-in_err-locals.ensures.1 λ n.
    frame_no_locals c.args.bytes.now _ _ c.in_ok-instanceidx.ensures.found (c.in_err-locals.ensures.none n)

pub returns-in_err-stack-clause-none : goal.returns-in_err-stack-clause-none
returns-in_err-stack-clause-none g c = fault_stays c.from_residual-in_err-stack.result _ c.from_residual-in_err-stack.ensures.1 λ n.
    frame_no_stack c.args.bytes.now _ _ _ _ c.in_ok-instanceidx.ensures.found c.in_ok-locals.ensures.found (c.in_err-stack.ensures.none n)

pub returns-clause-found : goal.returns-clause-found
returns-clause-found g c = frame_decodes c.args.bytes.now _ _ _ _ _ _ c.in_ok-instanceidx.ensures.found c.in_ok-locals.ensures.found c.in_ok-stack.ensures.found
