use Rattle.std.proofs.Common.{◌≡◌, drop, map}
use Rattle.wasm_sections.specs.Words.{item_of}
use Rattle.examples.specs.Coverage.{has_counter}
use Rattle.examples.proofs.coverage.numbers.has_counter.Given as goal

abbrev pub invariant-loop-export : goal.invariant-loop-export
invariant-loop-export l = has_counter (map item_of (drop l.export-index l.exports)) ≡ has_counter (map item_of l.exports)
