use Rattle.wasm_base.proofs.Std.{◌≡◌, ◌+◌, ◌≤◌, ◌++◌, length, vec_len, vec_capacity}
use Rattle.wasm_base.specs.{groups_encoding}
use Rattle.wasm_base.proofs.leb128.put_groups.Given as goal

abbrev pub invariant-loop-rest : goal.invariant-loop-rest
invariant-loop-rest g l = record {
  encoding : l.sink.items ++ groups_encoding l.negative l.limit l.rest ≡ l.initial.sink.items ++ groups_encoding l.negative l.limit l.n;
  spare : vec_len l.sink + length (groups_encoding l.negative l.limit l.rest) ≤ vec_capacity l.sink;
  capacity : vec_capacity l.sink ≡ vec_capacity l.initial.sink;
}

abbrev pub decreases-loop-rest : goal.decreases-loop-rest
decreases-loop-rest g l = l.rest
