use Rattle.wasm_base.proofs.Words.{fault_stays}
use Rattle.wasm_sections.proofs.ElementLaws.{functions_no_kind, functions_other, functions_none, functions_none_implicit}
use Rattle.wasm_sections.proofs.WalkItems.{functions_walk, only_functions_walk}
use Rattle.wasm_sections.proofs.walk.walk_functions.Goals as goal

pub returns-in_err-kind-clause-none : goal.returns-in_err-kind-clause-none
returns-in_err-kind-clause-none g c = fault_stays c.from_residual.result _ c.from_residual.ensures.1 λ n. functions_no_kind c.args.explicit c.args.bytes.now c.if-explicit.true (c.in_err-kind.ensures.none n)

pub returns-then-kind-ne0-clause-none : goal.returns-then-kind-ne0-clause-none
returns-then-kind-ne0-clause-none g c = λ n. functions_other c.args.explicit c.args.bytes.now _ _ c.if-explicit.true c.in_ok-kind.ensures.found c.if-kind-ne0.true

pub returns-in_err-rest-clause-none : goal.returns-in_err-rest-clause-none
returns-in_err-rest-clause-none g c = fault_stays c.from_residual-in_err-rest.result _ c.from_residual-in_err-rest.ensures.1 λ n. functions_none c.args.explicit c.args.bytes.now _ _ c.if-explicit.true c.in_ok-kind.ensures.found c.if-kind-ne0.false (c.in_err-rest.ensures.none n)

pub returns-then-explicit-clause-found : goal.returns-then-explicit-clause-found
returns-then-explicit-clause-found g c = functions_walk c.args.explicit c.if-explicit.true c.in_ok-kind.ensures.found c.if-kind-ne0.false c.in_ok-put.ensures.ok c.in_ok-rest.ensures.found

pub returns-in_err-rest-2-clause-none : goal.returns-in_err-rest-2-clause-none
returns-in_err-rest-2-clause-none g c = fault_stays c.from_residual-in_err-rest-2.result _ c.from_residual-in_err-rest-2.ensures.1 λ n. functions_none_implicit c.args.explicit c.args.bytes.now c.if-explicit.false (c.in_err-rest-2.ensures.none n)

pub returns-clause-found : goal.returns-clause-found
returns-clause-found g c = only_functions_walk c.args.explicit c.if-explicit.false c.in_ok-rest-2.ensures.found
