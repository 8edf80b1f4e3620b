use Rattle.wasm_sections.proofs.Common.{flags_view, fault_stays, memory_none, memory_no_minimum, memory_no_maximum, memory_decodes}
use Rattle.wasm_sections.proofs.memory.MemoryTypeReadable.read.Goals as goal

pub returns-in_err-flags-clause-none : goal.returns-in_err-flags-clause-none
returns-in_err-flags-clause-none g c = fault_stays c.from_residual.result _ c.from_residual.ensures.1 λ n. memory_none c.args.bytes.now (c.in_err-flags.ensures.none n)

pub returns-in_err-minimum-clause-none : goal.returns-in_err-minimum-clause-none
returns-in_err-minimum-clause-none g c = fault_stays c.from_residual-in_err-minimum.result _ c.from_residual-in_err-minimum.ensures.1 λ n. memory_no_minimum c.args.bytes.now _ (flags_view c.in_ok-flags.flags) c.in_ok-flags.ensures.found (c.in_err-minimum.ensures.none n)

pub returns-in_err-maximum-clause-none : goal.returns-in_err-maximum-clause-none
returns-in_err-maximum-clause-none g c = fault_stays c.from_residual-in_err-maximum.result _ c.from_residual-in_err-maximum.ensures.1 λ n. memory_no_maximum c.args.bytes.now _ _ (flags_view c.in_ok-flags.flags) _ c.in_ok-flags.ensures.found c.in_ok-minimum.ensures.found (c.in_err-maximum.ensures.none n)

pub returns-clause-found : goal.returns-clause-found
returns-clause-found g c = memory_decodes c.args.bytes.now _ _ _ _ (flags_view c.in_ok-flags.flags) _ _ _ c.in_ok-flags.ensures.found c.in_ok-minimum.ensures.found c.in_ok-maximum.ensures.found c.in_ok-page_size_log2.ensures.found
