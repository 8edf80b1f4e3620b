use Rattle.wasm_base.proofs.Words.{refl, map, next_appended, all_appended, vec_appended, member_encoded, members_encoded, stays_short}
use Rattle.wasm_custom.proofs.counted.append_items.Goals as goal

pub loop-item-preserved : goal.loop-item-preserved
loop-item-preserved g c =
    let k = g.K.ItemsAs in
    next_appended k.format k.view c.args.items.now c.loop-item.item-index c.item-item.result _ c.loop-item.sink.items _ c.loop-item-test.true c.item-item.is c.loop-item.invariant c.in_ok-append_item.ensures.ok

pub returns-clause-ok : goal.returns-clause-ok
returns-clause-ok g c =
    let k = g.K.ItemsAs in
    let old = c.args.sink.now.items in
    vec_appended k.format k.view c.args.items.now old c.encode.new.sink.items c.loop-item.sink.items c.in_ok-encode.ensures.appends.ok
    (all_appended k.format k.view c.args.items.now c.loop-item.item-index c.encode.new.sink.items c.loop-item.sink.items c.loop-item-test.false c.loop-item.invariant)

pub returns-in_err-append_item-clause-too_long : goal.returns-in_err-append_item-clause-too_long
returns-in_err-append_item-clause-too_long g c = λ h.
    let k = g.K.ItemsAs in
    let items = c.args.items.now in
    stays_short c.from_residual-in_err-append_item.result _ _ refl c.from_residual-in_err-append_item.ensures.1 (c.in_err-append_item.ensures.too_long (member_encoded k.format k.view items c.loop-item.item-index c.item-item.result c.loop-item-test.true c.item-item.is (members_encoded k.format (map k.view items) h)))
