use Rattle.std.proofs.Common.{replicate}
use Rattle.wasm_sections.specs.Globals.{ContainsGlobals}
use Rattle.examples.specs.Coverage.{counter}
use Rattle.examples.proofs.coverage.counters.counters.Given as goal

abbrev pub invariant-loop-done : goal.invariant-loop-done
invariant-loop-done g l = ContainsGlobals l.section (replicate l._done counter)
