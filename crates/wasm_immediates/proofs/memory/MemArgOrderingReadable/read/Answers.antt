use Rattle.wasm_immediates.proofs.Common.{fault_stays, mem_order_none, mem_seq_cst, mem_acq_rel, mem_rmw}
use Rattle.wasm_immediates.proofs.memory.MemArgOrderingReadable.read.Goals as goal

pub returns-in_err-tag-clause-none : goal.returns-in_err-tag-clause-none
returns-in_err-tag-clause-none g c = fault_stays c.from_residual.result _ c.from_residual.ensures.1 λ n. mem_order_none c.args.bytes.now (c.in_err-tag.ensures.none n)

pub returns-in-0-clause-found : goal.returns-in-0-clause-found
returns-in-0-clause-found g c = search (mem_seq_cst, c.in_ok-tag.ensures.found, c.in-0.is)

pub returns-in-1-clause-found : goal.returns-in-1-clause-found
returns-in-1-clause-found g c = search (mem_acq_rel, c.in_ok-tag.ensures.found, c.in-1.is)

pub returns-in-17-clause-found : goal.returns-in-17-clause-found
returns-in-17-clause-found g c = search (mem_rmw, c.in_ok-tag.ensures.found, c.in-17.is)
