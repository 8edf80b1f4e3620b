use Rattle.wasm_base.proofs.Words.{arith, refl}
use Rattle.wasm_base.proofs.MinimalEncodings.{front_then}
use Rattle.wasm_remap.proofs.StreamLaws.{streamed_start, streamed_step, streamed_front, streamed_vec}
use Rattle.wasm_remap.proofs.streamed.append_many.Goals as goal

pub loop-taken-init : goal.loop-taken-init
loop-taken-init g c m follows = streamed_start (g.T.Streamed.image m) g.T.Streamed.format c.in_ok-count.rest.now c.encode.new.sink.items

pub loop-taken-preserved : goal.loop-taken-preserved
loop-taken-preserved g c m follows = streamed_step (g.T.Streamed.image m) g.T.Streamed.format (c.loop-taken.invariant m follows) (c.in_ok-rest.ensures.found m follows)

pub returns-in_err-rest-clause-front : goal.returns-in_err-rest-clause-front
returns-in_err-rest-clause-front g c =
    let old = c.args.sink.now.items in
    let kept = front_then old c.encode.new.sink.items c.loop-taken.sink.items (_, c.in_ok-encode.ensures.appends.ok) (streamed_front _ _ (c.loop-taken.invariant (g.M.Remap.mapped c.args.indices.now) (λ _ _ _. refl))) in
    front_then old c.loop-taken.sink.items _ kept c.in_err-rest.ensures.front

pub returns-clause-found : goal.returns-clause-found
returns-clause-found g c m follows =
    streamed_vec _ _ c.in_ok-count.count c.in_ok-count.ensures.found c.in_ok-encode.ensures.appends.ok (c.loop-taken.invariant m follows) (omega (arith, c.loop-taken-test.false, c.loop-taken.auto._taken-end))

pub returns-clause-front : goal.returns-clause-front
returns-clause-front g c = front_then c.args.sink.now.items c.encode.new.sink.items c.loop-taken.sink.items (_, c.in_ok-encode.ensures.appends.ok) (streamed_front _ _ (c.loop-taken.invariant (g.M.Remap.mapped c.args.indices.now) (λ _ _ _. refl)))
