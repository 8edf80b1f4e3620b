use Rattle.wasm_code.proofs.Common.{arith, such, begins_such, front_and_rest, such_none, fault_stays, none_left, member_shorter, instruction, table, any_begins, IsNoEnd}
use Rattle.wasm_code.proofs.Common.{ended_fail, ended_short, front_is}
use Rattle.wasm_code.proofs.WalkBodies.{code_begun, code_continued, code_done}
use Rattle.wasm_code.proofs.expression.ExpressionWalk.walk.Goals as goal

pub loop-rest-init : goal.loop-rest-init
loop-rest-init g c = code_begun c.args.bytes.now _

pub returns-then-first-eq-END-clause-found : goal.returns-then-first-eq-END-clause-found
returns-then-first-eq-END-clause-found g c =
    code_done c.args.bytes.now c.loop-rest.rest.now _ _ _ _ c.loop-rest.invariant (front_is 11 c.loop-rest.rest.now c.in-len1-up.len_at_least c.if-first-eq-END.true) c.in_ok-put.ensures.ok

pub returns-in_err-rest-clause-none : goal.returns-in_err-rest-clause-none
returns-in_err-rest-clause-none g c =
    let go = c.loop-rest.invariant in
    fault_stays c.from_residual-in_err-rest.result _ c.from_residual-in_err-rest.ensures.1 λ n.
    ended_fail 11 (such IsNoEnd (instruction table)) (λ i. i) c.args.bytes.now _ c.loop-rest.rest.now _ go.values go.read (front_and_rest c.loop-rest.rest.now c.in-len1-up.len_at_least) c.if-first-eq-END.false (such_none IsNoEnd (c.in_err-rest.ensures.none n))

pub loop-rest-preserved : goal.loop-rest-preserved
loop-rest-preserved g c =
    code_continued c.args.bytes.now _ c.loop-rest.rest.now _ c.in_ok-rest.rest.now _ _ _ c.loop-rest.invariant (front_and_rest c.loop-rest.rest.now c.in-len1-up.len_at_least) c.if-first-eq-END.false c.in_ok-rest.ensures.found

pub loop-rest-smaller : goal.loop-rest-smaller
loop-rest-smaller g c =
    let x = c.in_ok-rest.ensures.found in
    member_shorter (instruction table) c.loop-rest.rest.now c.in_ok-rest.rest.now x.value any_begins x.decoded

pub returns-in_default-clause-none : goal.returns-in_default-clause-none
returns-in_default-clause-none g c = λ n.
    let go = c.loop-rest.invariant in
    ended_short 11 (such IsNoEnd (instruction table)) (λ i. i) c.args.bytes.now (begins_such (λ b. Unit {0}) IsNoEnd any_begins) c.loop-rest.rest.now go.values go.read (none_left c.loop-rest.rest.now (omega (arith, c.in_default.len_below)))
