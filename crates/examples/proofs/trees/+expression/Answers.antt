use Rattle.examples.proofs.Common.{sym, gains_member, gains_last, call_listed, expr_operations}
use Rattle.examples.proofs.trees.+expression.Goals as goal

pub emit_expr-returns-in_ok-emit_expr-in-Binary-2 : goal.emit_expr-returns-in_ok-emit_expr-in-Binary-2
emit_expr-returns-in_ok-emit_expr-in-Binary-2 g t c =
    rw c.in-Binary.is (gains_last _ _ _ c.in_ok-emit_expr-in-Binary.ensures (gains_last _ _ _ c.in_ok-emit_expr-in-Binary-2.ensures c.emit-in-Binary.ensures))

pub emit_expr-returns-in_ok-emit_arguments-in-Call : goal.emit_expr-returns-in_ok-emit_arguments-in-Call
emit_expr-returns-in_ok-emit_arguments-in-Call g t c =
    rw (c.in-Call.is, sym (call_listed c.in-Call.index c.in-Call.arguments)) (gains_last _ _ _ c.in_ok-emit_arguments-in-Call.ensures c.emit-in-Call.ensures)

pub emit_arguments-loop-argument-preserved : goal.emit_arguments-loop-argument-preserved
emit_arguments-loop-argument-preserved g t c =
    gains_member expr_operations c.args.arguments.now c.loop-argument.argument-index c.argument-item.result c.loop-argument-test.true c.argument-item.is c.loop-argument.invariant c.in_ok-emit_expr.ensures
