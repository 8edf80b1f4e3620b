use Rattle.calls.proofs.Common.{◌≡◌, ◌≤◌, [], ◌∷◌, length, drop, refl, subst, ◌∙◌, arith, padded, u32, pair, vec, Decodes, val_type, length-append, and_then, HasVisited, ahead, walk_gives, Plain}
use Rattle.calls.proofs.Common.{instruction, table}
use Rattle.calls.proofs.walks.offset_after.Goals as goal

pub loop-taken-init : goal.loop-taken-init
loop-taken-init g c =
    let runs = c.in_ok-_runs._runs.items in
    let same = c.in_ok-_runs.ensures.same in
    let read = subst (λ z. Decodes (vec (pair u32 val_type)) padded c.args.bytes.now runs (drop c.in_ok-_runs.instructions.offset z)) same c.in_ok-_runs.ensures.found in
    (record { runs = runs; code = [] }, c.offsets.ensures.padded.begun c.args.bytes.now c.in_ok-_runs.instructions.offset runs read c.in_ok-_runs.ensures.within, refl, c.in_ok-_runs.ensures.within, same)

pub loop-taken-preserved : goal.loop-taken-preserved
loop-taken-preserved g c =
    let w = c.loop-taken.invariant in
    let old = c.loop-taken.instructions in
    let new = c.next.new.self in
    let gives = walk_gives padded c.loop-taken.instructions c.next.new.self refl c.in-Some.is c.in_ok-_step.ensures in
    let read = gives.found in
    let i : Plain = record { op = c.in-Some._step.op; arguments = read.immediates } in
    let same : new.bytes ≡ c.args.bytes.now = gives.same ∙ w.4 in
    let there = subst (λ z. Decodes (instruction table) padded (drop old.offset z) i (drop new.offset c.args.bytes.now)) w.4 (subst (λ z. Decodes (instruction table) padded (ahead old) i (drop new.offset z)) same read.decodes) in
    let within : new.offset ≤ length c.args.bytes.now = subst (λ z. new.offset ≤ length z) same gives.within in
    (and_then w.0 (i ∷ []), c.offsets.ensures.padded.continues c.args.bytes.now old.offset new.offset w.0 i w.1 there gives.further within, omega (arith, length-append w.0.code (i ∷ []), w.2), within, same)

pub returns : goal.returns
returns g c = λ front more x h n e.
    let w = c.loop-taken.invariant in
    let gone = subst (λ z. HasVisited padded z c.loop-taken.instructions.offset w.0) e w.1 in
    let within = subst (λ z. c.loop-taken.instructions.offset ≤ length z) e w.3 in
    c.offset.ensures ∙ (c.offsets.ensures.padded.same front more c.loop-taken.instructions.offset x w.0 h gone within (omega (arith, w.2, n, c.loop-taken-test.false))).1
