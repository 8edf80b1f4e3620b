use Rattle.wasm_base.proofs.Std.{map, take}
use Rattle.wasm_base.specs.{members, AppendsMinimal}
use Rattle.wasm_base.proofs.vectors.write_all.Given as goal

abbrev pub invariant-loop-item : goal.invariant-loop-item
invariant-loop-item g l = AppendsMinimal g.T.Shorten.grammars (members g.T.Layout.format) (map g.T.Layout.view (take l.item-index l.items)) l.initial.sink.items l.sink.items
