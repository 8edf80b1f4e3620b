use Rattle.wasm_base.proofs.Words.{u32}
use Rattle.wasm_base.proofs.DecodeVectors.{vec_rejects_count}
use Rattle.wasm_types.proofs.Common.{arith, fault_stays, if_ok_more, if_err_more, supertypes_none}
use Rattle.wasm_types.proofs.WalkTypes.{final_walks, final_not, empty_walks, empty_rejects, empty_not}
use Rattle.wasm_types.proofs.walk.walk_final.Goals as goal

pub returns-in_err-count-clause-none : goal.returns-in_err-count-clause-none
returns-in_err-count-clause-none g c = fault_stays c.from_residual.result _ c.from_residual.ensures.1 λ n. final_not g.G.Grammar.grammar (supertypes_none (vec_rejects_count u32 c.args.bytes.now (c.in_err-count.ensures.none n)))

pub returns-then-count-gt0-clause-found : goal.returns-then-count-gt0-clause-found
returns-then-count-gt0-clause-found g c = if_ok_more c.walk_supertypes_and.result (λ rest h. final_walks c.in_ok-count.ensures.found c.if-count-gt0.true c.in_ok-put.ensures.ok h) c.walk_supertypes_and.ensures.found

pub returns-then-count-gt0-clause-none : goal.returns-then-count-gt0-clause-none
returns-then-count-gt0-clause-none g c = if_err_more c.walk_supertypes_and.result (λ e none n. final_not g.G.Grammar.grammar (none n)) c.walk_supertypes_and.ensures.none

pub returns-then-not-is_standard-clause-none : goal.returns-then-not-is_standard-clause-none
returns-then-not-is_standard-clause-none g c = λ e. empty_rejects g.G.Grammar.grammar c.in_ok-count.ensures.found (omega (arith, c.if-count-gt0.false)) c.is_standard.ensures c.if-not-is_standard.true

pub returns-clause-found : goal.returns-clause-found
returns-clause-found g c = if_ok_more c.walk_composite.result (λ rest h. empty_walks c.in_ok-count.ensures.found (omega (arith, c.if-count-gt0.false)) c.is_standard.ensures c.if-not-is_standard.false h) c.walk_composite.ensures.found

pub returns-clause-none : goal.returns-clause-none
returns-clause-none g c = if_err_more c.walk_composite.result (λ e none n. empty_not g.G.Grammar.grammar c.in_ok-count.ensures.found (omega (arith, c.if-count-gt0.false)) (none n)) c.walk_composite.ensures.none
