use Rattle.wasm_immediates.proofs.Common.{fault_stays, arith, memory_none, memory_decodes, memory_unknown, memory_no_target, memory_no_ordering, memory_no_offset}
use Rattle.wasm_immediates.proofs.memory.read_any_memory.Goals as goal

pub returns-in_err-flags-clause-none : goal.returns-in_err-flags-clause-none
returns-in_err-flags-clause-none g c = fault_stays c.from_residual.result _ c.from_residual.ensures.1 λ n. memory_none c.args.bytes.now (c.in_err-flags.ensures.none n)

pub returns-then-flags-ge128-clause-none : goal.returns-then-flags-ge128-clause-none
returns-then-flags-ge128-clause-none g c = λ e. memory_unknown c.args.bytes.now _ _ c.in_ok-flags.ensures.found (omega (arith, c.if-flags-ge128.true))

pub returns-in_err-target-clause-none : goal.returns-in_err-target-clause-none
returns-in_err-target-clause-none g c = fault_stays c.from_residual-in_err-target.result _ c.from_residual-in_err-target.ensures.1 λ n. memory_no_target _ c.args.bytes.now _ _ c.in_ok-flags.ensures.found (omega (arith, c.if-flags-ge128.false)) (c.in_err-target.ensures.none n)

pub returns-in_err-ordering-clause-none : goal.returns-in_err-ordering-clause-none
returns-in_err-ordering-clause-none g c = fault_stays c.from_residual-in_err-ordering.result _ c.from_residual-in_err-ordering.ensures.1 λ n. memory_no_ordering _ c.args.bytes.now _ _ _ _ c.in_ok-flags.ensures.found (omega (arith, c.if-flags-ge128.false)) c.in_ok-target.ensures.found (c.in_err-ordering.ensures.none n)

pub returns-in_err-offset-clause-none : goal.returns-in_err-offset-clause-none
returns-in_err-offset-clause-none g c = fault_stays c.from_residual-in_err-offset.result _ c.from_residual-in_err-offset.ensures.1 λ n. memory_no_offset _ c.args.bytes.now _ _ _ _ _ _ c.in_ok-flags.ensures.found (omega (arith, c.if-flags-ge128.false)) c.in_ok-target.ensures.found c.in_ok-ordering.ensures.found (c.in_err-offset.ensures.none n)

pub returns-clause-found : goal.returns-clause-found
returns-clause-found g c = search (memory_decodes, c.in_ok-flags.ensures.found, c.if-flags-ge128.false, c.in_ok-target.ensures.found, c.in_ok-ordering.ensures.found, c.in_ok-offset.ensures.found)
