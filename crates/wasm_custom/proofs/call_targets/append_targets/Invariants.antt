use Rattle.wasm_base.proofs.Words.{◌≡◌, ◌≤◌, ◌++◌, take, vec_len, vec_capacity, flat_map}
use Rattle.wasm_custom.specs.{target_encoding, target_view}
use Rattle.wasm_custom.proofs.call_targets.append_targets.Given as goal

abbrev pub invariant-loop-target : goal.invariant-loop-target
invariant-loop-target g l = record {
  start : l.start ≡ vec_len l.fn.sink;
  encoding : l.sink.items ≡ l.fn.sink.items ++ flat_map (λ t. target_encoding (target_view t)) (take l.target-index l.targets);
  capacity : vec_capacity l.fn.sink ≤ vec_capacity l.sink;
}
