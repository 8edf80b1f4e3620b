use Rattle.examples.proofs.Gains.{gains_one}
use Rattle.examples.proofs.lowering.emit.Goals as goal

pub returns : goal.returns
returns g c = gains_one c.args.operation c.instruction.ensures c.lower.ensures.same c.lower.ensures.plain
