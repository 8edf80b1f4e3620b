use Rattle.wasm_base.proofs.Faults.{fault_stays, memory_stays}
use Rattle.wasm_base.proofs.DecodeVectors.{loop_rejects, vec_rejects_count, loop_decodes}
use Rattle.wasm_base.proofs.Std.{arith}
use Rattle.wasm_base.proofs.vectors.VecReadable.read.Goals as goal

pub returns-in_err-item-clause-none : goal.returns-in_err-item-clause-none
returns-in_err-item-clause-none g c =
    let t = g.T.Layout in
    fault_stays c.from_residual-in_err-item.result _ c.from_residual-in_err-item.ensures.1 λ n.
    loop_rejects t.format t.view c.args.bytes.now _ c.loop-taken.rest.now c.loop-taken.items.items _ _ c.laws.ensures c.in_ok-count.ensures.found c.loop-taken.invariant.0 c.loop-taken.invariant.1 c.loop-taken-test.true (c.in_err-item.ensures.none n)

pub returns-in_err-count-clause-none : goal.returns-in_err-count-clause-none
returns-in_err-count-clause-none g c = fault_stays c.from_residual.result _ c.from_residual.ensures.1 λ n. vec_rejects_count _ c.args.bytes.now (c.in_err-count.ensures.none n)

pub returns-clause-found : goal.returns-clause-found
returns-clause-found g c = loop_decodes g.T.Layout.format g.T.Layout.view c.args.bytes.now _ c.loop-taken.rest.now c.loop-taken.items.items _ c.in_ok-count.ensures.found c.loop-taken.invariant.0 (omega (arith, c.loop-taken.invariant.1, c.loop-taken-test.false, c.loop-taken.auto._taken-end))

pub returns-in_err-push-clause-none : goal.returns-in_err-push-clause-none
returns-in_err-push-clause-none g c = memory_stays _ c.from_residual-in_err-push.result c.from_residual-in_err-push.ensures.1
