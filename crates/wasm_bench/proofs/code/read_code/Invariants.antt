use Rattle.wasm_base.proofs.Words.{◌≡◌, length}
use Rattle.wasm_bench.proofs.code.read_code.Given as goal

abbrev pub invariant-loop : goal.invariant-loop
invariant-loop l = length l.code ≡ l.counter
