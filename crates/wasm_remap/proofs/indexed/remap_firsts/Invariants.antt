use Rattle.std.proofs.Common.{◌≡◌, map, take, drop}
use Rattle.wasm_remap.specs.Mapping.{Follows, Mapping, mapped_first}
use Rattle.wasm_remap.proofs.indexed.remap_firsts.Given as goal

abbrev pub invariant-loop-item : goal.invariant-loop-item
invariant-loop-item g l =
    (drop l.item-index l.items ≡ drop l.item-index l.fn.items)
    × ((m : Mapping) → Follows (g.M.Remap.mapped l.indices) (g.M.Remap.rejects l.indices) m → take l.item-index l.items ≡ map (mapped_first m l.space) (take l.item-index l.fn.items))
