use Rattle.examples.proofs.Common.{take, GainsOperations}
use Rattle.examples.proofs.lowering.emit_all.Given as goal

abbrev pub invariant-loop-operation : goal.invariant-loop-operation
invariant-loop-operation g l = GainsOperations (take l.operation-index l.operations) l.initial.function l.function
