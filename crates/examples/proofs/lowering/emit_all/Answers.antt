use Rattle.examples.proofs.Common.{arith, subst, sym, take_all, take_more, gains_none, gains_more, GainsOperations}
use Rattle.examples.proofs.lowering.emit_all.Goals as goal

pub loop-operation-init : goal.loop-operation-init
loop-operation-init g c = gains_none

pub loop-operation-preserved : goal.loop-operation-preserved
loop-operation-preserved g c =
    subst (λ s. GainsOperations s c.args.function.now c.emit.new.function) (sym (take_more c.args.operations.now c.loop-operation.operation-index _ c.loop-operation-test.true))
    (gains_more c.loop-operation.invariant c.in_ok-emit.ensures)

pub returns : goal.returns
returns g c =
    subst (λ s. GainsOperations s c.args.function.now c.loop-operation.function) (take_all c.loop-operation.operation-index c.args.operations.now (omega arith)) c.loop-operation.invariant
