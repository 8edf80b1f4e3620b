use Rattle.examples.proofs.Common.{length, HasStripped}
use Rattle.wasm_reader.specs.Words.{ahead}
use Rattle.examples.proofs.stripped.without_custom.Given as goal

abbrev pub invariant-loop-kept : goal.invariant-loop-kept
invariant-loop-kept g l = HasStripped (ahead l.initial.sections) (ahead l.sections) l.kept

abbrev pub decreases-loop-kept : goal.decreases-loop-kept
decreases-loop-kept g l = length (ahead l.sections)
