use Rattle.wasm_base.proofs.WalkLaws.{value_walks}
use Rattle.wasm_base.proofs.walk.walk_value.Goals as goal

pub returns-clause-found : goal.returns-clause-found
returns-clause-found g c = value_walks g.E.Effect.seen g.G.Grammar.grammar g.T.Layout.format g.T.Layout.view g.T.Encode.encoding c.in_ok-value.value c.args.bytes.now c.in_ok-value.rest.now _ _ c.canonical.ensures c.in_ok-value.ensures.found c.in_ok-put.ensures.ok
