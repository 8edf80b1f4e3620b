use Rattle.calls.proofs.Common.{arith, common_steps, one_byte}
use Rattle.calls.proofs.instructions.sum.Goals as goal

pub returns-clause-bytes : goal.returns-clause-bytes
returns-clause-bytes g c =
    grind (arith, common_steps, one_byte, c.in_ok-local_get.ensures.writes.bytes, c.in_ok-local_get-2.ensures.writes.bytes, c.i32_add.ensures.writes.bytes)
