use Rattle.wasm_immediates.proofs.MinimalImmediates.{block_in}
use Rattle.wasm_immediates.proofs.block_type.BlockTypeEncodeIn.minimal_in.Goals as goal

pub returns : goal.returns
returns g c = block_in g.G.Grammar.grammar
