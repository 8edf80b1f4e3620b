use Rattle.examples.proofs.Common.{take, flat_map, GainsOperations, statement_operations}
use Rattle.examples.proofs.trees.+statement.Given as goal

abbrev pub invariant-emit_statements-loop-statement : goal.invariant-emit_statements-loop-statement
invariant-emit_statements-loop-statement g l = GainsOperations (flat_map statement_operations (take l.statement-index l.statements)) l.initial.function l.function
