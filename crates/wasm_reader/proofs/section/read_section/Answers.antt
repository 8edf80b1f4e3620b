use Rattle.wasm_reader.proofs.Common.{cause_stays, section_none, section_rejects, shorter}
use Rattle.wasm_reader.proofs.section.read_section.Goals as goal

pub returns-in_err-sized-clause-none : goal.returns-in_err-sized-clause-none
returns-in_err-sized-clause-none g c = cause_stays c.from_residual.result _ c.from_residual.ensures.1 λ n. section_none c.args.kind c.args.bytes.now (c.in_err-sized.ensures.none n)

pub returns-in_err-items-clause-none : goal.returns-in_err-items-clause-none
returns-in_err-items-clause-none g c = cause_stays c.from_residual-in_err-items.result _ c.from_residual-in_err-items.ensures.1 λ n. section_rejects c.args.kind c.args.bytes.now _ _ c.in_ok-sized.ensures.found (c.in_err-items.ensures.none n)

pub overflow_sub-result : goal.overflow_sub-result
overflow_sub-result g c = shorter c.in_ok-sized.ensures.found
