use Rattle.std.proofs.Common.{◌≡◌, map, take, drop}
use Rattle.wasm_remap.specs.Mapping.{Follows, Mapping}
use Rattle.wasm_remap.proofs.indexed.remap_each.Given as goal

abbrev pub invariant-loop-item : goal.invariant-loop-item
invariant-loop-item g l =
    (drop l.item-index l.items ≡ drop l.item-index l.fn.items)
    × ((m : Mapping) → Follows (g.M.Remap.mapped l.indices) (g.M.Remap.rejects l.indices) m → map g.T.Indexed.view (take l.item-index l.items) ≡ map (g.T.Indexed.remapped m) (map g.T.Indexed.view (take l.item-index l.fn.items)))
