use Rattle.wasm_base.proofs.Words.{◌≡◌, length}
use Rattle.wasm_bench.proofs.exports.build.Given as goal

abbrev pub invariant-loop-i : goal.invariant-loop-i
invariant-loop-i l = length l.section ≡ l.i
