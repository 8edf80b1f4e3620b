use Rattle.wasm_base.proofs.Std.{◌≡◌, ◌+◌, length}
use Rattle.wasm_base.specs.{groups_encoding}
use Rattle.wasm_base.proofs.leb128.groups_size.Given as goal

abbrev pub invariant-loop-rest : goal.invariant-loop-rest
invariant-loop-rest l = l.size + length (groups_encoding l.negative l.limit l.rest) ≡ length (groups_encoding l.negative l.limit l.n) + 1

abbrev pub decreases-loop-rest : goal.decreases-loop-rest
decreases-loop-rest l = l.rest
