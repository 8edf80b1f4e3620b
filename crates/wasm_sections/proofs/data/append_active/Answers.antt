use Rattle.wasm_sections.proofs.Common.{instructions_view, placed_encoded}
use Rattle.wasm_sections.proofs.data.append_active.Goals as goal

pub returns-then-memory-eq0-clause-too_long : goal.returns-then-memory-eq0-clause-too_long
returns-then-memory-eq0-clause-too_long g c = λ h. c.append_placed.ensures.too_long (placed_encoded c.args.memory (instructions_view c.args.offset.now) c.args.bytes.now h)

pub returns-clause-too_long : goal.returns-clause-too_long
returns-clause-too_long g c = λ h. c.append_placed-2.ensures.too_long (placed_encoded c.args.memory (instructions_view c.args.offset.now) c.args.bytes.now h)
