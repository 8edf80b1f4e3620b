use Rattle.read_back.proofs.Common.{[], ◌∷◌, ◌++◌, refl, ◌∙◌, arith, standard, length-append, ahead, continues, ended, stopped, walk_ends, walk_fails, walk_gives, body_fills, body_no_code, Plain}
use Rattle.read_back.proofs.sections.count_in_body.Goals as goal

pub returns-in-Ok-None-clause-found : goal.returns-in-Ok-None-clause-found
returns-in-Ok-None-clause-found g c =
    let w = c.loop-count.invariant in (
      record { runs = c.in_ok-_runs._runs.items; code = w.0 },
      body_fills c.args.body.now.bytes (ahead c.in_ok-_runs.instructions) c.in_ok-_runs._runs.items w.0 c.in_ok-_runs.ensures.found (ended w.0 w.1 (walk_ends standard c.loop-count.instructions c.next.new.self refl c.in-Ok-None.field-0-is c.in-Ok-None.ensures)),
      w.2,
    )

pub returns-in-Err-clause-none : goal.returns-in-Err-clause-none
returns-in-Err-clause-none g c = λ n.
    let w = c.loop-count.invariant in
    let fails = walk_fails standard c.loop-count.instructions c.next.new.self refl c.in-Err.ensures in
    body_no_code c.args.body.now.bytes (ahead c.in_ok-_runs.instructions) c.in_ok-_runs._runs.items c.in_ok-_runs.ensures.found (stopped w.0 w.1 fails.1 (fails.0.none (λ k. n (c.locate.ensures.cause ∙ k))))

pub loop-count-preserved : goal.loop-count-preserved
loop-count-preserved g c =
    let w = c.loop-count.invariant in
    let gives = walk_gives standard c.loop-count.instructions c.next.new.self refl c.in-Ok-Some.field-0-is c.in-Ok-Some.ensures in
    let read = gives.found in
    let i : Plain = record { op = c.in-Ok-Some.field-0-0.op; arguments = read.immediates } in
    (w.0 ++ i ∷ [], continues w.0 w.1 read.decodes, omega (arith, length-append w.0 (i ∷ []), w.2), omega (arith, w.3, gives.further), gives.same ∙ w.4)
