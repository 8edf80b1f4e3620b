use Rattle.wasm_base.proofs.Words.{fault_stays}
use Rattle.wasm_sections.specs.{element_flag_view}
use Rattle.wasm_sections.proofs.ElementLaws.{segment_mode_no_table, segment_mode_no_offset}
use Rattle.wasm_sections.proofs.WalkItems.{declared_walks, inactive_walks, in_table_walks, no_table_walks}
use Rattle.wasm_sections.proofs.walk.walk_segment_mode.Goals as goal

pub returns-in-true-true-clause-found : goal.returns-in-true-true-clause-found
returns-in-true-true-clause-found g c = declared_walks (element_flag_view c.args.flag) c.args.bytes.now _ c.in-true-true.is-0 c.in-true-true.is-1

pub returns-in-true-false-clause-found : goal.returns-in-true-false-clause-found
returns-in-true-false-clause-found g c = inactive_walks (element_flag_view c.args.flag) c.args.bytes.now _ c.in-true-false.is-0 c.in-true-false.is-1

pub returns-in_err-rest-in-false-true-clause-none : goal.returns-in_err-rest-in-false-true-clause-none
returns-in_err-rest-in-false-true-clause-none g c = fault_stays c.from_residual.result _ c.from_residual.ensures.1 λ n. segment_mode_no_table (element_flag_view c.args.flag) c.args.bytes.now c.in-false-true.is-0 c.in-false-true.is-1 (c.in_err-rest-in-false-true.ensures.none n)

pub returns-in_ok-rest-in-false-true-clause-found : goal.returns-in_ok-rest-in-false-true-clause-found
returns-in_ok-rest-in-false-true-clause-found g c = in_table_walks (element_flag_view c.args.flag) c.in-false-true.is-0 c.in-false-true.is-1 c.in_ok-rest-in-false-true.ensures.found

pub returns-in_err-rest-in-false-false-clause-none : goal.returns-in_err-rest-in-false-false-clause-none
returns-in_err-rest-in-false-false-clause-none g c = fault_stays c.from_residual-in_err-rest-in-false-false.result _ c.from_residual-in_err-rest-in-false-false.ensures.1 λ n. segment_mode_no_offset (element_flag_view c.args.flag) c.args.bytes.now c.in-false-false.is-0 c.in-false-false.is-1 (c.in_err-rest-in-false-false.ensures.none n)

pub returns-in_ok-rest-in-false-false-clause-found : goal.returns-in_ok-rest-in-false-false-clause-found
returns-in_ok-rest-in-false-false-clause-found g c = no_table_walks (element_flag_view c.args.flag) c.in-false-false.is-0 c.in-false-false.is-1 c.in_ok-rest-in-false-false.ensures.found
