use Rattle.wasm_remap.proofs.ContentLaws.{bodies_remap}
use Rattle.wasm_remap.proofs.FirstLaws.{on_ok}
use Rattle.wasm_remap.proofs.bodies.remap_bodies.Goals as goal

pub returns-else-is_err-clause-ok : goal.returns-else-is_err-clause-ok
returns-else-is_err-clause-ok g c = on_ok c.append_bodies-appended.result (λ h m follows. bodies_remap m c.args.section.now.section c.payload.result.now c.args.sink.now.items _ c.requires c.payload.ensures.value (h m follows)) c.append_bodies-appended.ensures.found
