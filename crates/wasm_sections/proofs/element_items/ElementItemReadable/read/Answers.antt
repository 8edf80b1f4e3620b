use Rattle.wasm_sections.proofs.Common.{fault_stays, element_none, element_no_segment_mode, element_decodes, element_flag_view}
use Rattle.wasm_sections.proofs.element_items.ElementItemReadable.read.Goals as goal

pub returns-in_err-flag-clause-none : goal.returns-in_err-flag-clause-none
returns-in_err-flag-clause-none g c = fault_stays c.from_residual.result _ c.from_residual.ensures.1 λ n. element_none c.args.bytes.now (c.in_err-flag.ensures.none n)

pub returns-in_err-mode-clause-none : goal.returns-in_err-mode-clause-none
returns-in_err-mode-clause-none g c = fault_stays c.from_residual-in_err-mode.result _ c.from_residual-in_err-mode.ensures.1 λ n. element_no_segment_mode c.args.bytes.now _ (element_flag_view c.in_ok-flag.flag) c.in_ok-flag.ensures.found (c.in_err-mode.ensures.none n)

pub returns-clause-found : goal.returns-clause-found
returns-clause-found g c = element_decodes c.args.bytes.now _ _ _ (element_flag_view c.in_ok-flag.flag) _ _ _ c.in_ok-flag.ensures.found c.in_ok-mode.ensures.found c.has_kind.ensures c.in_ok-elements.ensures.found
