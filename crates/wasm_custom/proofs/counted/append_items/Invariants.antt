use Rattle.wasm_base.proofs.Words.{map, take, members, AppendsMinimal, both_grammars}
use Rattle.wasm_custom.proofs.counted.append_items.Given as goal

abbrev pub invariant-loop-item : goal.invariant-loop-item
invariant-loop-item g l = AppendsMinimal both_grammars (members g.K.ItemsAs.format) (map g.K.ItemsAs.view (take l.item-index l.items)) l.initial.sink.items l.sink.items
