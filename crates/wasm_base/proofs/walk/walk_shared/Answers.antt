use Rattle.wasm_base.proofs.WalkLaws.{shared_walks}
use Rattle.wasm_base.proofs.walk.walk_shared.Goals as goal

pub returns-clause-found : goal.returns-clause-found
returns-clause-found g c = shared_walks g.E.Effect.seen g.G.Grammar.grammar g.T.Layout.format (g.T.Layout.view c.in_ok-value.value) c.args.bytes.now c.in_ok-value.rest.now _ _ c.shared.ensures c.in_ok-value.ensures.found c.in_ok-put_minimal.ensures.ok
