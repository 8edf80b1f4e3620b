use Rattle.wasm_base.proofs.Words.{◌≡◌, map, take, unsigned_encoding}
use Rattle.wasm_bench.proofs.functions.build.Given as goal

abbrev pub invariant-loop-type_index : goal.invariant-loop-type_index
invariant-loop-type_index l = l.section ≡ map unsigned_encoding (take l.type_index-index l.types)
