use Rattle.wasm_base.proofs.Words.{◌≡◌}
use Rattle.wasm_bench.proofs.code.add_by_calls.Given as goal

abbrev pub invariant-loop : goal.invariant-loop
invariant-loop l = l.sink.sink.ghost_name ≡ l.initial.sink.sink.ghost_name
