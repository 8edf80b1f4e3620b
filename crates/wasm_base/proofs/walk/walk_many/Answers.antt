use Rattle.wasm_base.proofs.Std.{◌≡◌, arith}
use Rattle.wasm_base.proofs.Faults.{fault_stays, memory_stays}
use Rattle.wasm_base.proofs.SkipLaws.{skipped_rejects}
use Rattle.wasm_base.proofs.DecodeVectors.{vec_rejects_count}
use Rattle.wasm_base.proofs.WalkLaws.{walked_start, walked_step, walked_skip, walked_vec}
use Rattle.wasm_base.proofs.walk.walk_many.Goals as goal

pub returns-in_err-count-clause-none : goal.returns-in_err-count-clause-none
returns-in_err-count-clause-none g c = fault_stays c.from_residual.result _ c.from_residual.ensures.1 λ n. vec_rejects_count g.T.Layout.format c.args.bytes.now (c.in_err-count.ensures.none n)

pub returns-in_err-put-clause-none : goal.returns-in_err-put-clause-none
returns-in_err-put-clause-none g c = memory_stays _ c.from_residual-in_err-put.result c.from_residual-in_err-put.ensures.1

pub returns-in_err-rest-clause-none : goal.returns-in_err-rest-clause-none
returns-in_err-rest-clause-none g c = fault_stays c.from_residual-in_err-rest.result _ c.from_residual-in_err-rest.ensures.1 λ n.
    skipped_rejects g.T.Layout.format c.args.bytes.now _ c.loop-taken.rest.now _ _ c.laws.ensures c.in_ok-count.ensures.found (walked_skip g.T.Layout.format c.loop-taken.invariant) c.loop-taken-test.true (c.in_err-rest.ensures.none n)

pub loop-taken-init : goal.loop-taken-init
loop-taken-init g c = walked_start g.T.Layout.format c.in_ok-count.rest.now _

pub loop-taken-preserved : goal.loop-taken-preserved
loop-taken-preserved g c = walked_step g.T.Layout.format c.loop-taken.invariant c.in_ok-rest.ensures.found

pub returns-clause-found : goal.returns-clause-found
returns-clause-found g c =
    let all : c.loop-taken._taken ≡ c.in_ok-count.count = omega (arith, c.loop-taken-test.false, c.loop-taken.auto._taken-end) in
    walked_vec g.T.Layout.format c.in_ok-count.count c.in_ok-count.ensures.found c.in_ok-put.ensures.ok c.loop-taken.invariant all
