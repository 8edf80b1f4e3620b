use Rattle.examples.proofs.Common.{sym, gains_more, gains_member, gains_last, while_listed, statement_operations}
use Rattle.examples.proofs.trees.+statement.Goals as goal

pub emit_statement-returns-in_ok-emit_expr-in-Set : goal.emit_statement-returns-in_ok-emit_expr-in-Set
emit_statement-returns-in_ok-emit_expr-in-Set g t c = rw c.in-Set.is (gains_last _ _ _ c.in_ok-emit_expr-in-Set.ensures c.emit.ensures)

pub emit_statement-returns-in_ok-emit-in-While-6 : goal.emit_statement-returns-in_ok-emit-in-While-6
emit_statement-returns-in_ok-emit-in-While-6 g t c =
    let begun = gains_more c.in_ok-emit-in-While.ensures c.in_ok-emit-in-While-2.ensures in
    let leaves = gains_more c.in_ok-emit-in-While-3.ensures c.in_ok-emit-in-While-4.ensures in
    let ended = gains_last _ _ _ c.in_ok-emit-in-While-5.ensures (gains_last _ _ _ c.in_ok-emit-in-While-6.ensures c.emit-in-While-7.ensures) in
    rw (c.in-While.is, sym (while_listed c.in-While.test c.in-While.body))
    (gains_last _ _ _ begun (gains_last _ _ _ c.in_ok-emit_expr-in-While.ensures (gains_last _ _ _ leaves (gains_last _ _ _ c.in_ok-emit_statements-in-While.ensures ended))))

pub emit_statement-returns-in_ok-emit_expr-in-Return : goal.emit_statement-returns-in_ok-emit_expr-in-Return
emit_statement-returns-in_ok-emit_expr-in-Return g t c = rw c.in-Return.is (gains_last _ _ _ c.in_ok-emit_expr-in-Return.ensures c.emit-in-Return.ensures)

pub emit_statements-loop-statement-preserved : goal.emit_statements-loop-statement-preserved
emit_statements-loop-statement-preserved g t c =
    gains_member statement_operations c.args.statements.now c.loop-statement.statement-index c.statement-item.result c.loop-statement-test.true c.statement-item.is c.loop-statement.invariant c.in_ok-emit_statement.ensures
