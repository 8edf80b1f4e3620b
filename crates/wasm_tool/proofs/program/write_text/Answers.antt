use Rattle.std.proofs.Common.{refl}
use Rattle.wasm_tool.proofs.WrittenFronts.{more_written, of_ok, of_error, front_written}
use Rattle.wasm_tool.proofs.program.write_text.Goals as goal
use Rattle.wasm_tool.proofs.program.write_text.Goals.{in-Ok, in-Err}

pub returns-then-is_empty-clause-part : goal.returns-then-is_empty-clause-part
returns-then-is_empty-clause-part g c = front_written _ _ _ _ c.loop-call.invariant

pub returns-in-Ok-eq0-clause-part : goal.returns-in-Ok-eq0-clause-part
returns-in-Ok-eq0-clause-part g c = front_written _ _ _ _ (more_written _ _ _ _ _ _ c.loop-call.invariant (of_ok _ _ _ _ _ _ c.write.ensures.bytes c.in-Ok-eq0.is refl))

pub returns-in-Err-2-clause-part : goal.returns-in-Err-2-clause-part
returns-in-Err-2-clause-part g c = front_written _ _ _ _ (more_written _ _ _ _ c.loop-call.rest.now 0 c.loop-call.invariant (of_error _ _ c.loop-call.rest.now 0 c.in-Err.ensures.bytes refl))

pub loop-call-preserved : goal.loop-call-preserved
loop-call-preserved g c = more_written _ _ _ _ _ _ c.loop-call.invariant (elim c.match-write.branch [
  | in-Ok w ↦ of_ok _ _ _ _ _ _ c.write.ensures.bytes w.in-Ok.is w.count-is
  | in-Err w ↦ of_error _ _ _ _ w.in-Err.ensures.bytes w.count-is
])

pub returns-clause-part : goal.returns-clause-part
returns-clause-part g c = front_written _ _ _ _ c.loop-call.invariant
