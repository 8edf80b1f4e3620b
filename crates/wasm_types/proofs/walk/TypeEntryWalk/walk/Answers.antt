use Rattle.wasm_types.proofs.Common.{fault_stays, if_ok_more, if_err_more, type_none, group_none}
use Rattle.wasm_types.proofs.WalkTypes.{group_walks, single_walks, single_not}
use Rattle.wasm_types.proofs.walk.TypeEntryWalk.walk.Goals as goal

pub returns-in_err-tag-clause-none : goal.returns-in_err-tag-clause-none
returns-in_err-tag-clause-none g c = fault_stays c.from_residual.result _ c.from_residual.ensures.1 λ n. type_none c.args.bytes.now (c.in_err-tag.ensures.none n)

pub returns-in_ok-put-clause-found : goal.returns-in_ok-put-clause-found
returns-in_ok-put-clause-found g c = if_ok_more c.walk.result (λ rest h. group_walks c.in_ok-tag.ensures.found c.if-tag-eq78.true c.in_ok-put.ensures.ok h) c.walk.ensures.found

pub returns-in_ok-put-clause-none : goal.returns-in_ok-put-clause-none
returns-in_ok-put-clause-none g c = if_err_more c.walk.result (λ e none n. group_none c.in_ok-tag.ensures.found c.if-tag-eq78.true (none n)) c.walk.ensures.none

pub returns-else-tag-eq78-clause-found : goal.returns-else-tag-eq78-clause-found
returns-else-tag-eq78-clause-found g c = if_ok_more c.walk-else-tag-eq78.result (λ rest h. single_walks h) c.walk-else-tag-eq78.ensures.found

pub returns-else-tag-eq78-clause-none : goal.returns-else-tag-eq78-clause-none
returns-else-tag-eq78-clause-none g c = if_err_more c.walk-else-tag-eq78.result (λ e none n. single_not g.G.Grammar.grammar c.in_ok-tag.ensures.found c.if-tag-eq78.false (none n)) c.walk-else-tag-eq78.ensures.none
