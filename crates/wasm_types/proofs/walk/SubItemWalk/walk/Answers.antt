use Rattle.wasm_types.proofs.Common.{fault_stays, if_ok_more, if_err_more, sub_none, sub_none_after, open_none, alone_none}
use Rattle.wasm_types.proofs.WalkTypes.{open_walks, alone_walks}
use Rattle.wasm_types.proofs.walk.SubItemWalk.walk.Goals as goal

pub returns-in_err-tag-clause-none : goal.returns-in_err-tag-clause-none
returns-in_err-tag-clause-none g c = fault_stays c.from_residual.result _ c.from_residual.ensures.1 λ n. sub_none c.args.bytes.now (c.in_err-tag.ensures.none n)

pub returns-then-tag-eq80-clause-found : goal.returns-then-tag-eq80-clause-found
returns-then-tag-eq80-clause-found g c = if_ok_more c.walk_supertypes_and.result (λ rest h. open_walks c.in_ok-tag.ensures.found c.if-tag-eq80.true c.in_ok-put.ensures.ok h) c.walk_supertypes_and.ensures.found

pub returns-then-tag-eq80-clause-none : goal.returns-then-tag-eq80-clause-none
returns-then-tag-eq80-clause-none g c = if_err_more c.walk_supertypes_and.result (λ e none n. sub_none_after c.in_ok-tag.ensures.found (open_none g.G.Grammar.grammar c.if-tag-eq80.true (none n))) c.walk_supertypes_and.ensures.none

pub returns-else-tag-eq80-clause-found : goal.returns-else-tag-eq80-clause-found
returns-else-tag-eq80-clause-found g c = if_ok_more c.walk_composite_after.result (λ rest h. alone_walks c.in_ok-tag.ensures.found c.if-tag-eq80.false c.if-tag-eq79.false c.in_ok-put.ensures.ok h) c.walk_composite_after.ensures.found

pub returns-else-tag-eq80-clause-none : goal.returns-else-tag-eq80-clause-none
returns-else-tag-eq80-clause-none g c = if_err_more c.walk_composite_after.result (λ e none n. sub_none_after c.in_ok-tag.ensures.found (alone_none g.G.Grammar.grammar c.if-tag-eq80.false c.if-tag-eq79.false (none n))) c.walk_composite_after.ensures.none
