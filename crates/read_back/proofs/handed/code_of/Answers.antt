use Rattle.wasm_code.proofs.Words.{new_code, encodes_padded, adds_bodies, adds_bodies_padded}
use Rattle.read_back.proofs.handed.code_of.Goals as goal

pub returns-in-Ok-clause-plain : goal.returns-in-Ok-clause-plain
returns-in-Ok-clause-plain g c = λ bodies encodes. adds_bodies (new_code c.new-section.ensures) c.in-Ok.ensures.ok bodies encodes

pub returns-in-Ok-clause-padded : goal.returns-in-Ok-clause-padded
returns-in-Ok-clause-padded g c = λ bodies encodes. adds_bodies_padded (encodes_padded (new_code c.new-section.ensures)) c.in-Ok.ensures.ok bodies encodes
