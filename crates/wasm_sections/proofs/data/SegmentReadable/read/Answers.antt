use Rattle.wasm_sections.proofs.Common.{fault_stays, not_from_Decides, instructions_view, segment_none, first_none, passive_none, passive_decodes, other_no_memory, other_none, other_zero}
use Rattle.wasm_sections.proofs.Common.{other_decodes, first_decodes}
use Rattle.wasm_sections.proofs.data.SegmentReadable.read.Goals as goal

pub returns-in_err-flag-clause-none : goal.returns-in_err-flag-clause-none
returns-in_err-flag-clause-none g c = fault_stays c.from_residual.result _ c.from_residual.ensures.1 λ n. segment_none c.args.bytes.now (c.in_err-flag.ensures.none n)

pub returns-in_err-offset-in-0-clause-none : goal.returns-in_err-offset-in-0-clause-none
returns-in_err-offset-in-0-clause-none g c = fault_stays c.from_residual-in_err-offset-in-0.result _ c.from_residual-in_err-offset-in-0.ensures.1 λ n. first_none c.args.bytes.now _ _ c.in_ok-flag.ensures.found c.in-0.is (c.in_err-offset-in-0.ensures.none n)

pub returns-in_err-bytes-in-1-clause-none : goal.returns-in_err-bytes-in-1-clause-none
returns-in_err-bytes-in-1-clause-none g c = fault_stays c.from_residual-in_err-bytes-in-1.result _ c.from_residual-in_err-bytes-in-1.ensures.1 λ n. passive_none c.args.bytes.now _ _ c.in_ok-flag.ensures.found c.in-1.is (c.in_err-bytes-in-1.ensures.none n)

pub returns-in_ok-bytes-in-1-clause-found : goal.returns-in_ok-bytes-in-1-clause-found
returns-in_ok-bytes-in-1-clause-found g c = passive_decodes c.args.bytes.now _ _ _ _ c.in_ok-flag.ensures.found c.in-1.is c.in_ok-bytes-in-1.ensures.found

pub returns-in_err-memory-in-2-clause-none : goal.returns-in_err-memory-in-2-clause-none
returns-in_err-memory-in-2-clause-none g c = fault_stays c.from_residual-in_err-memory-in-2.result _ c.from_residual-in_err-memory-in-2.ensures.1 λ n. other_no_memory c.args.bytes.now _ _ c.in_ok-flag.ensures.found c.in-2.is (c.in_err-memory-in-2.ensures.none n)

pub returns-in_err-offset-in-2-clause-none : goal.returns-in_err-offset-in-2-clause-none
returns-in_err-offset-in-2-clause-none g c = fault_stays c.from_residual-in_err-offset-in-2.result _ c.from_residual-in_err-offset-in-2.ensures.1 λ n. other_none _ c.args.bytes.now _ _ _ _ c.in_ok-flag.ensures.found c.in-2.is c.in_ok-memory-in-2.ensures.found (c.has_index.ensures.0 c.if-not-has_index.false) (c.in_err-offset-in-2.ensures.none n)

pub returns-in_ok-offset-in-2-clause-found : goal.returns-in_ok-offset-in-2-clause-found
returns-in_ok-offset-in-2-clause-found g c = other_decodes _ c.args.bytes.now _ _ _ _ c.in_ok-flag.ensures.found c.in-2.is c.in_ok-memory-in-2.ensures.found (c.has_index.ensures.0 c.if-not-has_index.false) _ (instructions_view c.in_ok-offset-in-2.offset) c.in_ok-offset-in-2.field-0-0-1.0.now c.in_ok-offset-in-2.ensures.found

pub returns-in_ok-offset-in-0-clause-found : goal.returns-in_ok-offset-in-0-clause-found
returns-in_ok-offset-in-0-clause-found g c = search (first_decodes, c.in_ok-flag.ensures.found, c.in-0.is, c.in_ok-offset-in-0.ensures.found)

pub returns-then-not-has_index-clause-none : goal.returns-then-not-has_index-clause-none
returns-then-not-has_index-clause-none g c = λ n. other_zero _ c.args.bytes.now _ _ _ _ c.in_ok-flag.ensures.found c.in-2.is c.in_ok-memory-in-2.ensures.found (not_from_Decides _ c.has_index.ensures c.if-not-has_index.true)
