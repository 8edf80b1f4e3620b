use Rattle.wasm_base.proofs.Words.{◌≡◌, ◌∷◌, ◌++◌, [], ◌≤◌, length, sym, subst, refl, ◌∙◌, arith, padded}
use Rattle.std.proofs.lemmas.List.{length-append}
use Rattle.wasm_insn.proofs.Words.{Plain}
use Rattle.wasm_code.proofs.Words.{ahead, continues, ended, walk_ends, walk_gives, body_fills}
use Rattle.wasm_bench.proofs.decoding.walked.Goals as goal

pub loop-step-preserved : goal.loop-step-preserved
loop-step-preserved c =
    let w = c.loop-step.invariant in
    let new = c.next.new.self in
    let gives = walk_gives _ _ _ refl c.in-Some.is c.in_ok-_step.ensures in
    let read = gives.found in
    let i : Plain = record { op = c.in-Some._step.op; arguments = read.immediates } in
    let same : new.bytes ≡ c.args.body.now = gives.same ∙ w.5 in
    (w.0 ++ i ∷ [], continues w.0 w.1 read.decodes, omega (arith, length-append w.0 (i ∷ []), w.2), omega (arith, w.3, gives.further), subst (λ z. new.offset ≤ length z) same gives.within, same)

pub returns : goal.returns
returns c =
    let w = c.loop-step.invariant in
    record {
      walked = record { runs = c.in_ok-_runs._runs.items; code = w.0 };
      encodes = body_fills c.args.body.now (ahead c.in_ok-_runs.walk) c.in_ok-_runs._runs.items w.0 c.in_ok-_runs.ensures.found (ended w.0 w.1 (walk_ends padded c.loop-step.walk c.next.new.self refl c.in_default.is c.in_ok-_step.ensures));
      counted = sym w.2;
    }
