use Rattle.std.proofs.Common.{◌≡◌, ◌≤◌, ◌++◌, drop}
use Rattle.wasm_remap.specs.Removed.{numbered}
use Rattle.wasm_remap.proofs.remove.numbered.Given as goal

abbrev pub invariant-loop-flag : goal.invariant-loop-flag
invariant-loop-flag g l = (l.table.items ++ numbered l.next (drop l.flag-index l.removed) ≡ numbered 0 l.removed) × (l.next ≤ l.flag-index)
