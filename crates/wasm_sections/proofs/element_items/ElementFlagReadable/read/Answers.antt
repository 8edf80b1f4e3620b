use Rattle.wasm_sections.proofs.Common.{fault_stays, flag_none, flag_unknown}
use Rattle.wasm_sections.proofs.element_items.ElementFlagReadable.read.Goals as goal

pub returns-in_err-number-clause-none : goal.returns-in_err-number-clause-none
returns-in_err-number-clause-none g c = fault_stays c.from_residual.result _ c.from_residual.ensures.1 λ n. flag_none c.args.bytes.now (c.in_err-number.ensures.none n)

pub returns-then-number-ge8-clause-none : goal.returns-then-number-ge8-clause-none
returns-then-number-ge8-clause-none g c = λ n. flag_unknown c.args.bytes.now _ _ c.in_ok-number.ensures.found c.if-number-ge8.true
