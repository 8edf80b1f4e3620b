use Rattle.wasm_code.proofs.Common.{padded_of, subst, sym, arith, such, such_unambiguous, begins_such, fault_stays, memory_stays, none_left, such_none, front_and_rest, member_shorter, instruction}
use Rattle.wasm_code.proofs.Common.{table, unique, any_begins, plain_view, IsNoEnd, HasEnded, ended_step, ended_fail, ended_done, ended_short, front_is, not_end}
use Rattle.wasm_code.proofs.expression.ExpressionReadable.read.Goals as goal

pub returns-then-first-eq-END-clause-found : goal.returns-then-first-eq-END-clause-found
returns-then-first-eq-END-clause-found g c =
    ended_done 11 (such IsNoEnd (instruction table)) plain_view c.args.bytes.now c.loop-rest.rest.now _ c.loop-rest.items.items c.loop-rest.invariant
    (front_is 11 c.loop-rest.rest.now c.in-len1-up.len_at_least c.if-first-eq-END.true)

pub returns-in_err-item-clause-none : goal.returns-in_err-item-clause-none
returns-in_err-item-clause-none g c = fault_stays c.from_residual.result _ c.from_residual.ensures.1 λ n.
    ended_fail 11 (such IsNoEnd (instruction table)) plain_view c.args.bytes.now _ c.loop-rest.rest.now _ c.loop-rest.items.items c.loop-rest.invariant
    (front_and_rest c.loop-rest.rest.now c.in-len1-up.len_at_least) c.if-first-eq-END.false (such_none IsNoEnd (c.in_err-item.ensures.none n))

pub returns-in_err-push-clause-none : goal.returns-in_err-push-clause-none
returns-in_err-push-clause-none g c = memory_stays _ c.from_residual-in_err-push.result c.from_residual-in_err-push.ensures.1

pub loop-rest-preserved : goal.loop-rest-preserved
loop-rest-preserved g c =
    let split = front_and_rest c.loop-rest.rest.now c.in-len1-up.len_at_least in
    subst (λ z. HasEnded 11 (such IsNoEnd (instruction table)) (padded_of g.G.Grammar.grammar) plain_view c.args.bytes.now z c.in_ok-item.after.now) (sym c.in_ok-push.ensures.items)
    (ended_step 11 (such IsNoEnd (instruction table)) plain_view c.args.bytes.now (such_unambiguous IsNoEnd unique) _ c.loop-rest.rest.now _ c.in_ok-item.after.now c.loop-rest.items.items c.in_ok-item.item c.loop-rest.invariant split c.if-first-eq-END.false
    (not_end c.loop-rest.rest.now _ c.in_ok-item.after.now _ (plain_view c.in_ok-item.item) split c.if-first-eq-END.false c.in_ok-item.ensures.found))

pub loop-rest-smaller : goal.loop-rest-smaller
loop-rest-smaller g c = member_shorter (instruction table) c.loop-rest.rest.now c.in_ok-item.after.now (plain_view c.in_ok-item.item) any_begins c.in_ok-item.ensures.found

pub returns-in_default-clause-none : goal.returns-in_default-clause-none
returns-in_default-clause-none g c = λ n.
    ended_short 11 (such IsNoEnd (instruction table)) plain_view c.args.bytes.now (begins_such (λ b. Unit {0}) IsNoEnd any_begins) c.loop-rest.rest.now c.loop-rest.items.items c.loop-rest.invariant (none_left c.loop-rest.rest.now (omega (arith, c.in_default.len_below)))
