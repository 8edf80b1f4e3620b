use Rattle.std.proofs.Common.{rules, ◌<◌, length}
use Rattle.wasm_custom.specs.Words.{name_item_view}
use Rattle.wasm_remap.specs.Removed.{trimmed_name}
use Rattle.wasm_remap.proofs.EachLaws.{drop_step, each_step}
use Rattle.wasm_remap.proofs.remove.remove_all_names.Goals as goal

pub loop-item-preserved : goal.loop-item-preserved
loop-item-preserved g c =
    let within : c.loop-item.item-index < length c.loop-item.items = search rules in
    let before = c.loop-item.invariant in (
      drop_step c.loop-item.items c.args.items.now c.loop-item.item-index c.remove_names.new.item before.0,
      each_step name_item_view (trimmed_name c.args.removed.now) c.loop-item.items c.args.items.now c.loop-item.item-index c.remove_names.new.item _ within before.0 before.1 c.remove_names.ensures,
    )
