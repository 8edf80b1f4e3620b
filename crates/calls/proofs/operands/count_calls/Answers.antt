use Rattle.calls.proofs.Common.{[], ◌∷◌, ◌++◌, ◌+◌, ap, refl, ◌∙◌, arith, fault_stays, padded, ahead, continues, ended, stopped, walk_ends, walk_fails, walk_gives, body_fills, body_no_code, Plain}
use Rattle.calls.proofs.Common.{calls_and_call, calls_and_other}
use Rattle.calls.proofs.operands.count_calls.Goals as goal

pub returns-in_err-decoded-clause-none : goal.returns-in_err-decoded-clause-none
returns-in_err-decoded-clause-none g c = fault_stays c.from_residual-in_err-decoded.result _ c.from_residual-in_err-decoded.ensures.1 λ n.
    let w = c.loop-decoded.invariant in
    let fails = walk_fails padded c.loop-decoded.instructions c.next.new.self refl c.in_err-decoded.ensures in
    body_no_code c.args.bytes.now (ahead c.in_ok-_runs.instructions) c.in_ok-_runs._runs.items c.in_ok-_runs.ensures.found (stopped w.0 w.1 fails.1 (fails.0.none n))

pub loop-decoded-preserved-then-is_call_of : goal.loop-decoded-preserved-then-is_call_of
loop-decoded-preserved-then-is_call_of g c =
    let w = c.loop-decoded.invariant in
    let gives = walk_gives padded c.loop-decoded.instructions c.next.new.self refl c.in-Some.is c.in_ok-decoded.ensures in
    let read = gives.found in
    let i : Plain = record { op = c.in-Some.decoded.op; arguments = read.immediates } in
    let one = calls_and_call c.args.function w.0 i (c.if-is_call_of.ensures read.immediates read.operands) in
    (w.0 ++ i ∷ [], continues w.0 w.1 read.decodes, one ∙ ap (λ n. n + 1) w.2, omega (arith, w.3, gives.further), gives.same ∙ w.4)

pub loop-decoded-preserved : goal.loop-decoded-preserved
loop-decoded-preserved g c =
    let w = c.loop-decoded.invariant in
    let gives = walk_gives padded c.loop-decoded.instructions c.next.new.self refl c.in-Some.is c.in_ok-decoded.ensures in
    let read = gives.found in
    let i : Plain = record { op = c.in-Some.decoded.op; arguments = read.immediates } in
    let none = calls_and_other c.args.function w.0 i (c.if-is_call_of.ensures read.immediates read.operands) in
    (w.0 ++ i ∷ [], continues w.0 w.1 read.decodes, none ∙ w.2, omega (arith, w.3, gives.further), gives.same ∙ w.4)

pub returns-clause-found : goal.returns-clause-found
returns-clause-found g c =
    let w = c.loop-decoded.invariant in (
      record { runs = c.in_ok-_runs._runs.items; code = w.0 },
      body_fills c.args.bytes.now (ahead c.in_ok-_runs.instructions) c.in_ok-_runs._runs.items w.0 c.in_ok-_runs.ensures.found (ended w.0 w.1 (walk_ends padded c.loop-decoded.instructions c.next.new.self refl c.in_default.is c.in_ok-decoded.ensures)),
      w.2,
    )
