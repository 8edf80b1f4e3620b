use Rattle.wasm_code.proofs.Common.{refl, member_encoded, stays_short, next_appended, all_appended, front_then, front_appended, instruction, table, plain_view}
use Rattle.wasm_code.proofs.body.append_code.Goals as goal

pub loop-instruction-preserved : goal.loop-instruction-preserved
loop-instruction-preserved g c =
    next_appended (instruction table) plain_view c.args.code.now c.loop-instruction.instruction-index c.instruction-item.result _ c.loop-instruction.sink.items _ c.loop-instruction-test.true c.instruction-item.is c.loop-instruction.invariant c.in_ok-write_minimal.ensures.ok

pub returns-clause-ok : goal.returns-clause-ok
returns-clause-ok g c = all_appended (instruction table) plain_view c.args.code.now c.loop-instruction.instruction-index _ c.loop-instruction.sink.items c.loop-instruction-test.false c.loop-instruction.invariant

pub returns-in_err-write_minimal-clause-too_long : goal.returns-in_err-write_minimal-clause-too_long
returns-in_err-write_minimal-clause-too_long g c = λ h.
    stays_short c.from_residual.result _ _ refl c.from_residual.ensures.1
    (c.in_err-write_minimal.ensures.too_long (member_encoded (instruction table) plain_view c.args.code.now c.loop-instruction.instruction-index c.instruction-item.result c.loop-instruction-test.true c.instruction-item.is h))

pub returns-in_err-write_minimal-clause-front : goal.returns-in_err-write_minimal-clause-front
returns-in_err-write_minimal-clause-front g c = front_then c.args.sink.now.items c.loop-instruction.sink.items c.write_minimal.new.sink.items (front_appended _ _ _ _ c.loop-instruction.invariant) c.write_minimal.ensures.front
