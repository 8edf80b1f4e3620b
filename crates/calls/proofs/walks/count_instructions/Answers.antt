use Rattle.calls.proofs.Common.{[], ◌∷◌, ◌++◌, refl, ◌∙◌, arith, fault_stays, padded, length-append, ahead, continues, ended, stopped, walk_ends, walk_fails, walk_gives, body_fills, body_no_code, Plain}
use Rattle.calls.proofs.walks.count_instructions.Goals as goal

pub returns-in_err-_step-clause-none : goal.returns-in_err-_step-clause-none
returns-in_err-_step-clause-none g c = fault_stays c.from_residual-in_err-_step.result _ c.from_residual-in_err-_step.ensures.1 λ n.
    let w = c.loop-step.invariant in
    let fails = walk_fails padded c.loop-step.instructions c.next.new.self refl c.in_err-_step.ensures in
    body_no_code c.args.bytes.now (ahead c.in_ok-_runs.instructions) c.in_ok-_runs._runs.items c.in_ok-_runs.ensures.found (stopped w.0 w.1 fails.1 (fails.0.none n))

pub loop-step-preserved : goal.loop-step-preserved
loop-step-preserved g c =
    let w = c.loop-step.invariant in
    let gives = walk_gives padded c.loop-step.instructions c.next.new.self refl c.in-Some.is c.in_ok-_step.ensures in
    let read = gives.found in
    let i : Plain = record { op = c.in-Some._step.op; arguments = read.immediates } in
    (w.0 ++ i ∷ [], continues w.0 w.1 read.decodes, omega (arith, length-append w.0 (i ∷ []), w.2), omega (arith, w.3, gives.further), gives.same ∙ w.4)

pub returns-clause-found : goal.returns-clause-found
returns-clause-found g c =
    let w = c.loop-step.invariant in (
      record { runs = c.in_ok-_runs._runs.items; code = w.0 },
      body_fills c.args.bytes.now (ahead c.in_ok-_runs.instructions) c.in_ok-_runs._runs.items w.0 c.in_ok-_runs.ensures.found (ended w.0 w.1 (walk_ends padded c.loop-step.instructions c.next.new.self refl c.in_default.is c.in_ok-_step.ensures)),
      w.2,
    )
