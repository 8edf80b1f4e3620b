use Rattle.wasm_sections.proofs.Common.{fault_stays, element_flag_view, segment_mode_no_table, segment_mode_no_offset}
use Rattle.wasm_sections.proofs.element_items.read_mode.Goals as goal

pub returns-in_err-table-in-false-true-clause-none : goal.returns-in_err-table-in-false-true-clause-none
returns-in_err-table-in-false-true-clause-none g c = fault_stays c.from_residual.result _ c.from_residual.ensures.1 λ n.
    segment_mode_no_table (element_flag_view c.args.flag) c.args.bytes.now c.in-false-true.is-0 c.in-false-true.is-1 (c.in_err-table-in-false-true.ensures.none n)

pub returns-in_err-offset-in-false-false-clause-none : goal.returns-in_err-offset-in-false-false-clause-none
returns-in_err-offset-in-false-false-clause-none g c = fault_stays c.from_residual-in_err-offset-in-false-false.result _ c.from_residual-in_err-offset-in-false-false.ensures.1 λ n.
    segment_mode_no_offset (element_flag_view c.args.flag) c.args.bytes.now c.in-false-false.is-0 c.in-false-false.is-1 (c.in_err-offset-in-false-false.ensures.none n)
