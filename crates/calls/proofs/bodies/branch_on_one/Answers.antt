use Rattle.calls.proofs.Common.{arith, common_steps, after_constant, with_block, length_after}
use Rattle.calls.proofs.bodies.branch_on_one.Goals as goal

pub returns-clause-body : goal.returns-clause-body
returns-clause-body g c =
    let first = after_constant c.args.function.now _ _ c.instructions.ensures.same c.in_ok-i32_const.ensures.writes.bytes in
    grind (arith, common_steps, first, with_block c.args.function.now c.i32_const.new.self.sink.now c.instructions-instructions.result.sink.now c.if_.new.self.sink.now c.end.new.self.sink.now c.end-2.new.self.sink.now first, c.instructions-instructions.ensures.same, c.in_ok-if_.ensures.writes.bytes, c.in_ok-end.ensures.writes.bytes, c.in_ok-end-2.ensures.writes.bytes)

pub returns-clause-offset : goal.returns-clause-offset
returns-clause-offset g c =
    let first = after_constant c.args.function.now _ _ c.instructions.ensures.same c.in_ok-i32_const.ensures.writes.bytes in
    grind (arith, common_steps, length_after c.args.function.now _ first, c.byte_len-at.ensures)
