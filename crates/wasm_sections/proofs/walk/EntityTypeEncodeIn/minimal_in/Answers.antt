use Rattle.wasm_sections.proofs.WalkItems.{entity_in}
use Rattle.wasm_sections.proofs.walk.EntityTypeEncodeIn.minimal_in.Goals as goal

pub returns : goal.returns
returns g c = entity_in g.G.Grammar.grammar
