use Rattle.wasm_base.proofs.Words.{◌≡◌, ◌≤◌, take}
use Rattle.std.specs.List.{count_by}
use Rattle.wasm_remap.specs.Imported.{is_in}
use Rattle.wasm_remap.proofs.imports.imported_from.Given as goal

abbrev pub invariant-loop-item : goal.invariant-loop-item
invariant-loop-item g l = (l.count ≡ count_by (λ i. is_in l.space i.ty) (take l.item-index l.item-items)) × (l.count ≤ l.item-index)
