use Rattle.wasm_sections.proofs.Common.{fault_stays, expressions_none, expressions_none_implicit, expressions_implicit}
use Rattle.wasm_sections.proofs.element_items.read_expressions.Goals as goal

pub returns-in_err-ty-clause-none : goal.returns-in_err-ty-clause-none
returns-in_err-ty-clause-none g c = fault_stays c.from_residual.result _ c.from_residual.ensures.1 λ n. expressions_none c.args.explicit c.args.bytes.now c.if-explicit.true (c.in_err-ty.ensures.none n)

pub returns-in_err-expressions-clause-none : goal.returns-in_err-expressions-clause-none
returns-in_err-expressions-clause-none g c = fault_stays c.from_residual-in_err-expressions.result _ c.from_residual-in_err-expressions.ensures.1 λ n. expressions_none_implicit c.args.explicit c.args.bytes.now c.if-explicit.false (c.in_err-expressions.ensures.none n)

pub returns-clause-found : goal.returns-clause-found
returns-clause-found g c = expressions_implicit c.args.explicit c.args.bytes.now _ _ c.if-explicit.false c.in_ok-expressions.ensures.found
