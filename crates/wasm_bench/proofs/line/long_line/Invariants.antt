use Rattle.wasm_base.proofs.Words.{◌≡◌}
use Rattle.wasm_bench.proofs.line.long_line.Given as goal

abbrev pub invariant-loop-index : goal.invariant-loop-index
invariant-loop-index l = l.sink.sink.ghost_name ≡ l.initial.sink.sink.ghost_name
