use Rattle.std.proofs.Common.{rules, ◌<◌, length, slice_index_or, ap}
use Rattle.wasm_remap.specs.Mapping.{mapped_first}
use Rattle.wasm_remap.proofs.EachLaws.{drop_step, item_step}
use Rattle.wasm_remap.proofs.indexed.remap_firsts.Goals as goal

pub loop-item-preserved : goal.loop-item-preserved
loop-item-preserved g c =
    let within : c.loop-item.item-index < length c.loop-item.items = search rules in
    let before = c.loop-item.invariant in
    let second = (slice_index_or c.loop-item.items c.loop-item.item-index c.item-item.result).1 in (
      drop_step c.loop-item.items c.args.items.now c.loop-item.item-index (c.in_ok-item.field-0, second) before.0,
      λ m follows. item_step (mapped_first m c.args.space) c.loop-item.items c.args.items.now c.loop-item.item-index (c.in_ok-item.field-0, second) _ within before.0 (before.1 m follows) (ap (λ n. (n, second)) (c.in_ok-item.ensures.ok m follows)),
    )
