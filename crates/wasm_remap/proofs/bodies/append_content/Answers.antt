use Rattle.wasm_remap.proofs.BodyLaws.{content_remaps}
use Rattle.wasm_remap.proofs.bodies.append_content.Goals as goal

pub returns-clause-found : goal.returns-clause-found
returns-clause-found g c m follows = content_remaps m c.args.bytes.now c.in_ok-code.code.now c.args.sink.now.items _ _ (c.in_ok-code.ensures.found m follows) (c.in_ok-append_code.ensures.found m follows)
