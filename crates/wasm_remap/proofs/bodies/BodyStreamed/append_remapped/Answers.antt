use Rattle.wasm_code.specs.Bodies.{body}
use Rattle.wasm_remap.proofs.StreamLaws.{sized_remaps}
use Rattle.wasm_remap.proofs.bodies.BodyStreamed.append_remapped.Goals as goal

pub returns-clause-found : goal.returns-clause-found
returns-clause-found g c m follows =
    let sized = c.in_ok-prefix_size_since.ensures in
    sized_remaps body c.args.bytes.now c.in_ok-content.content.now c.in_ok-content.rest.now c.args.sink.now.items _ _ c.len-start.result c.in_ok-content.ensures.found (c.in_ok-append_content.ensures.found m follows) (search (c.len-start.ensures, c.args.sink.now.ok)) sized.was_encodable sized.sized
