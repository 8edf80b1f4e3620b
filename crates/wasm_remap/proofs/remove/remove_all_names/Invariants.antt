use Rattle.std.proofs.Common.{◌≡◌, map, take, drop}
use Rattle.wasm_custom.specs.Words.{name_item_view}
use Rattle.wasm_remap.specs.Removed.{trimmed_name}
use Rattle.wasm_remap.proofs.remove.remove_all_names.Given as goal

abbrev pub invariant-loop-item : goal.invariant-loop-item
invariant-loop-item g l =
    (drop l.item-index l.items ≡ drop l.item-index l.fn.items)
    × (map name_item_view (take l.item-index l.items) ≡ map (trimmed_name l.removed) (map name_item_view (take l.item-index l.fn.items)))
