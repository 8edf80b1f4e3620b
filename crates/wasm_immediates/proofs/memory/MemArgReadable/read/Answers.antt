use Rattle.wasm_immediates.proofs.Common.{front_and_rest, fault_stays, memory_plain, memory_plain_none}
use Rattle.wasm_immediates.proofs.memory.MemArgReadable.read.Goals as goal

pub returns-in_err-offset-clause-none : goal.returns-in_err-offset-clause-none
returns-in_err-offset-clause-none g c = fault_stays c.from_residual.result _ c.from_residual.ensures.1 λ n. memory_plain_none c.args.bytes.now _ _ (front_and_rest c.args.bytes.now c.in-len1-up.len_at_least) c.if-flags-lt16.true _ (c.in_err-offset.ensures.none n)

pub returns-then-flags-lt16-clause-found : goal.returns-then-flags-lt16-clause-found
returns-then-flags-lt16-clause-found g c = memory_plain c.args.bytes.now _ _ (front_and_rest c.args.bytes.now c.in-len1-up.len_at_least) c.if-flags-lt16.true _ _ _ _ c.from.ensures c.in_ok-offset.ensures.found
