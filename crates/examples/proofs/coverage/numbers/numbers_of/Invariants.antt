use Rattle.std.proofs.Common.{length}
use Rattle.wasm_reader.specs.Words.{ahead}
use Rattle.examples.proofs.CoverageLaws.{HasRead}
use Rattle.examples.proofs.coverage.numbers.numbers_of.Given as goal

abbrev pub invariant-loop-section : goal.invariant-loop-section
invariant-loop-section g l = HasRead l.bytes l.sections l.numbers

abbrev pub decreases-loop-section : goal.decreases-loop-section
decreases-loop-section g l = length (ahead l.sections)
