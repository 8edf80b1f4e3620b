use Rattle.wasm_sections.specs.Exports.{ContainsExports}
use Rattle.examples.specs.Coverage.{counter_exports}
use Rattle.examples.proofs.coverage.counters.exports.Given as goal

abbrev pub invariant-loop-body : goal.invariant-loop-body
invariant-loop-body g l = ContainsExports l.section (counter_exports l.numbers.function l.numbers.counter l.body)
