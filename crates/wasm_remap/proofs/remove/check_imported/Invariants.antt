use Rattle.std.proofs.Common.{◌≡◌, ◌<◌, ℕ, false}
use Rattle.wasm_remap.specs.Removed.{is_removed}
use Rattle.wasm_remap.proofs.remove.check_imported.Given as goal

abbrev pub invariant-loop-index : goal.invariant-loop-index
invariant-loop-index l = (n : ℕ) → n < l.index → is_removed l.removed n ≡ false
