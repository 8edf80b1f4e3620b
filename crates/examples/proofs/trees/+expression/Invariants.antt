use Rattle.examples.proofs.Common.{take, flat_map, GainsOperations, expr_operations}
use Rattle.examples.proofs.trees.+expression.Given as goal

abbrev pub invariant-emit_arguments-loop-argument : goal.invariant-emit_arguments-loop-argument
invariant-emit_arguments-loop-argument g l = GainsOperations (flat_map expr_operations (take l.argument-index l.arguments)) l.initial.function l.function
