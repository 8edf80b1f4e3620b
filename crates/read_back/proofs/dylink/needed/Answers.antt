use Rattle.wasm_custom.proofs.Words.{new_needed, adds_library}
use Rattle.read_back.proofs.dylink.needed.Goals as goal

pub returns : goal.returns
returns g c = adds_library (new_needed c.new-list.ensures) c.args.name.now c.in_ok-library.ensures.ok c.in_ok-library.ensures.counted c.in_ok-library.ensures.was_encodable c.utf8.name
