use Rattle.wasm_types.proofs.WalkTypes.{storage_in}
use Rattle.wasm_types.proofs.walk.StorageTypeEncodeIn.minimal_in.Goals as goal

pub returns : goal.returns
returns g c = storage_in g.G.Grammar.grammar
