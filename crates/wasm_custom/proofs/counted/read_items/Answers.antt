use Rattle.wasm_base.proofs.Words.{arith, fault_stays, memory_stays, vec_rejects_count, loop_rejects, loop_decodes}
use Rattle.wasm_custom.proofs.counted.read_items.Goals as goal

pub returns-in_err-item-clause-none : goal.returns-in_err-item-clause-none
returns-in_err-item-clause-none g c =
    let k = g.K.ItemsAs in
    fault_stays c.from_residual-in_err-item.result _ c.from_residual-in_err-item.ensures.1 λ n.
    loop_rejects k.format k.view c.args.bytes.now _ c.loop-taken.rest.now c.loop-taken.items.items _ _ c.unique.ensures c.in_ok-count.ensures.found c.loop-taken.invariant.0 c.loop-taken.invariant.1 c.loop-taken-test.true (c.in_err-item.ensures.none n)

pub returns-in_err-count-clause-none : goal.returns-in_err-count-clause-none
returns-in_err-count-clause-none g c = fault_stays c.from_residual.result _ c.from_residual.ensures.1 λ n. vec_rejects_count _ c.args.bytes.now (c.in_err-count.ensures.none n)

pub returns-clause-found : goal.returns-clause-found
returns-clause-found g c =
    let k = g.K.ItemsAs in
    loop_decodes k.format k.view c.args.bytes.now _ c.loop-taken.rest.now c.loop-taken.items.items _ c.in_ok-count.ensures.found c.loop-taken.invariant.0 (omega (arith, c.loop-taken.invariant.1, c.loop-taken-test.false, c.loop-taken.auto._taken-end))

pub returns-in_err-push-clause-none : goal.returns-in_err-push-clause-none
returns-in_err-push-clause-none g c = memory_stays _ c.from_residual-in_err-push.result c.from_residual-in_err-push.ensures.1
