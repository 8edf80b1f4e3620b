use Rattle.wasm_base.proofs.WalkLaws.{value_walks_in}
use Rattle.wasm_base.proofs.walk.walk_in.Goals as goal

pub returns-clause-found : goal.returns-clause-found
returns-clause-found g c = value_walks_in g.E.Effect.seen g.G.Grammar.grammar g.T.Layout.format g.T.Layout.view g.T.EncodeIn.encoding_in c.in_ok-value.value c.args.bytes.now c.in_ok-value.rest.now _ _ c.minimal_in.ensures c.in_ok-value.ensures.found c.in_ok-put_in.ensures.ok
