use Rattle.wasm_base.proofs.Words.{◌≡◌, length, take, joined}
use Rattle.wasm_bench.proofs.answers.CountedSectionEntries.entries_len.Given as goal

abbrev pub invariant-loop-index : goal.invariant-loop-index
invariant-loop-index g l = l.bytes ≡ length (joined (take l.index l.self))
