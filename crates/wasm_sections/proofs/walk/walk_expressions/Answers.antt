use Rattle.wasm_base.proofs.Words.{fault_stays, then_rejects_first, then_rejects_second, ref_unambiguous}
use Rattle.wasm_sections.proofs.ElementLaws.{expressions_none, expressions_none_implicit}
use Rattle.wasm_sections.proofs.WalkItems.{expressions_walk, only_expressions_walk}
use Rattle.wasm_sections.proofs.walk.walk_expressions.Goals as goal

pub returns-in_err-after-clause-none : goal.returns-in_err-after-clause-none
returns-in_err-after-clause-none g c = fault_stays c.from_residual.result _ c.from_residual.ensures.1 λ n. expressions_none c.args.explicit c.args.bytes.now c.if-explicit.true (then_rejects_first (c.in_err-after.ensures.none n))

pub returns-in_err-rest-clause-none : goal.returns-in_err-rest-clause-none
returns-in_err-rest-clause-none g c = fault_stays c.from_residual-in_err-rest.result _ c.from_residual-in_err-rest.ensures.1 λ n. expressions_none c.args.explicit c.args.bytes.now c.if-explicit.true (then_rejects_second ref_unambiguous c.in_ok-after.ensures.found.decoded (c.in_err-rest.ensures.none n))

pub returns-then-explicit-clause-found : goal.returns-then-explicit-clause-found
returns-then-explicit-clause-found g c = expressions_walk c.args.explicit c.if-explicit.true c.in_ok-after.ensures.found c.in_ok-rest.ensures.found

pub returns-in_err-rest-2-clause-none : goal.returns-in_err-rest-2-clause-none
returns-in_err-rest-2-clause-none g c = fault_stays c.from_residual-in_err-rest-2.result _ c.from_residual-in_err-rest-2.ensures.1 λ n. expressions_none_implicit c.args.explicit c.args.bytes.now c.if-explicit.false (c.in_err-rest-2.ensures.none n)

pub returns-clause-found : goal.returns-clause-found
returns-clause-found g c = only_expressions_walk c.args.explicit c.if-explicit.false c.in_ok-rest-2.ensures.found
