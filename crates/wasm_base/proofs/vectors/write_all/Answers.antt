use Rattle.wasm_base.proofs.Std.{refl}
use Rattle.wasm_base.proofs.MinimalEncodings.{next_appended, all_appended}
use Rattle.wasm_base.proofs.DecodedValues.{member_encoded, stays_short}
use Rattle.wasm_base.proofs.vectors.write_all.Goals as goal

pub loop-item-preserved : goal.loop-item-preserved
loop-item-preserved g c =
    let t = g.T.Layout in
    next_appended t.format t.view c.args.items.now c.loop-item.item-index c.item-item.result _ c.loop-item.sink.items _ c.loop-item-test.true c.item-item.is c.loop-item.invariant c.in_ok-write_minimal.ensures.ok

pub returns-clause-ok : goal.returns-clause-ok
returns-clause-ok g c =
    let t = g.T.Layout in
    all_appended t.format t.view c.args.items.now c.loop-item.item-index c.args.sink.now.items c.loop-item.sink.items c.loop-item-test.false c.loop-item.invariant

pub returns-in_err-write_minimal-clause-too_long : goal.returns-in_err-write_minimal-clause-too_long
returns-in_err-write_minimal-clause-too_long g c = λ h.
    let t = g.T.Layout in
    stays_short c.from_residual.result _ _ refl c.from_residual.ensures.1 (c.in_err-write_minimal.ensures.too_long (member_encoded t.format t.view c.args.items.now c.loop-item.item-index c.item-item.result c.loop-item-test.true c.item-item.is h))
