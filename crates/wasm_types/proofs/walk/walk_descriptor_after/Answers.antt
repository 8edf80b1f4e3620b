use Rattle.wasm_types.proofs.Common.{fault_stays, if_ok_more, if_err_more, refl, after_shape, index_none, index_none_after, no_index_none}
use Rattle.wasm_types.proofs.WalkTypes.{given_walks, absent_walks}
use Rattle.wasm_types.proofs.walk.walk_descriptor_after.Goals as goal

pub returns-in_err-index-clause-none : goal.returns-in_err-index-clause-none
returns-in_err-index-clause-none g c = fault_stays c.from_residual.result _ c.from_residual.ensures.1 λ n. index_none 0x4D after_shape refl c.if-tag-eq77.true (c.in_err-index.ensures.none n)

pub returns-in_ok-put-clause-found : goal.returns-in_ok-put-clause-found
returns-in_ok-put-clause-found g c = if_ok_more c.walk_shape_after.result (λ rest h. given_walks 0x4D after_shape refl c.if-tag-eq77.true c.in_ok-index.ensures.found c.in_ok-put.ensures.ok h) c.walk_shape_after.ensures.found

pub returns-in_ok-put-clause-none : goal.returns-in_ok-put-clause-none
returns-in_ok-put-clause-none g c = if_err_more c.walk_shape_after.result (λ e none n. index_none_after 0x4D after_shape refl c.if-tag-eq77.true c.in_ok-index.ensures.found (none n)) c.walk_shape_after.ensures.none

pub returns-else-tag-eq77-clause-found : goal.returns-else-tag-eq77-clause-found
returns-else-tag-eq77-clause-found g c = if_ok_more c.walk_shape_after-else-tag-eq77.result (λ rest h. absent_walks 0x4D after_shape refl c.if-tag-eq77.false h) c.walk_shape_after-else-tag-eq77.ensures.found

pub returns-else-tag-eq77-clause-none : goal.returns-else-tag-eq77-clause-none
returns-else-tag-eq77-clause-none g c = if_err_more c.walk_shape_after-else-tag-eq77.result (λ e none n. no_index_none 0x4D after_shape refl c.if-tag-eq77.false (none n)) c.walk_shape_after-else-tag-eq77.ensures.none
