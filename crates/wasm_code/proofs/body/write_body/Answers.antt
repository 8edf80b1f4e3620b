use Rattle.wasm_code.proofs.Common.{rules}
use Rattle.wasm_code.proofs.WalkBodies.{body_shortened}
use Rattle.wasm_code.proofs.body.write_body.Goals as goal

pub returns-clause-found : goal.returns-clause-found
returns-clause-found g c = body_shortened c.args.bytes.now c.args.sink.now.items c.minimize_content.new.sink.items c.prefix_size_since.new.sink.items c.len-start.result (search rules) c.in_ok-minimize_content.ensures.found c.in_ok-prefix_size_since.ensures.was_encodable c.in_ok-prefix_size_since.ensures.sized
