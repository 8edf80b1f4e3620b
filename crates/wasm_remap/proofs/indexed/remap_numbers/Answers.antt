use Rattle.std.proofs.Common.{rules, ◌<◌, length}
use Rattle.wasm_remap.proofs.EachLaws.{drop_step, item_step}
use Rattle.wasm_remap.proofs.indexed.remap_numbers.Goals as goal

pub loop-item-preserved : goal.loop-item-preserved
loop-item-preserved g c =
    let within : c.loop-item.item-index < length c.loop-item.items = search rules in
    let before = c.loop-item.invariant in (
      drop_step c.loop-item.items c.args.items.now c.loop-item.item-index c.in_ok-item.field-0 before.0,
      λ m follows. item_step (m c.args.space) c.loop-item.items c.args.items.now c.loop-item.item-index c.in_ok-item.field-0 _ within before.0 (before.1 m follows) (c.in_ok-item.ensures.ok m follows),
    )
