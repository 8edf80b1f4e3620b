use Rattle.std.proofs.Common.{rules, ◌<◌, length}
use Rattle.wasm_remap.proofs.EachLaws.{drop_step, each_step}
use Rattle.wasm_remap.proofs.indexed.remap_each.Goals as goal

pub loop-item-preserved : goal.loop-item-preserved
loop-item-preserved g c =
    let within : c.loop-item.item-index < length c.loop-item.items = search rules in
    let before = c.loop-item.invariant in (
      drop_step c.loop-item.items c.args.items.now c.loop-item.item-index c.remap.new.self before.0,
      λ m follows. each_step g.T.Indexed.view (g.T.Indexed.remapped m) c.loop-item.items c.args.items.now c.loop-item.item-index c.remap.new.self _ within before.0 (before.1 m follows) (c.in_ok-remap.ensures.ok m follows),
    )
