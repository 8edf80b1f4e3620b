use Rattle.wasm_types.proofs.Common.{fault_stays, if_ok_more, if_err_more, shared_none, shared_none_after, unshared_none}
use Rattle.wasm_types.proofs.WalkTypes.{shared_walks, unshared_walks}
use Rattle.wasm_types.proofs.walk.walk_composite_after.Goals as goal

pub returns-in_err-tag-clause-none : goal.returns-in_err-tag-clause-none
returns-in_err-tag-clause-none g c = fault_stays c.from_residual.result _ c.from_residual.ensures.1 λ n. shared_none c.if-tag-eq101.true (c.in_err-tag.ensures.none n)

pub returns-in_ok-put-clause-found : goal.returns-in_ok-put-clause-found
returns-in_ok-put-clause-found g c = if_ok_more c.walk_describes_after.result (λ rest h. shared_walks c.if-tag-eq101.true c.in_ok-tag.ensures.found c.in_ok-put.ensures.ok h) c.walk_describes_after.ensures.found

pub returns-in_ok-put-clause-none : goal.returns-in_ok-put-clause-none
returns-in_ok-put-clause-none g c = if_err_more c.walk_describes_after.result (λ e none n. shared_none_after c.if-tag-eq101.true c.in_ok-tag.ensures.found (none n)) c.walk_describes_after.ensures.none

pub returns-else-tag-eq101-clause-found : goal.returns-else-tag-eq101-clause-found
returns-else-tag-eq101-clause-found g c = if_ok_more c.walk_describes_after-else-tag-eq101.result (λ rest h. unshared_walks c.if-tag-eq101.false h) c.walk_describes_after-else-tag-eq101.ensures.found

pub returns-else-tag-eq101-clause-none : goal.returns-else-tag-eq101-clause-none
returns-else-tag-eq101-clause-none g c = if_err_more c.walk_describes_after-else-tag-eq101.result (λ e none n. unshared_none c.if-tag-eq101.false (none n)) c.walk_describes_after-else-tag-eq101.ensures.none
