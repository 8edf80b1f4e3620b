use Rattle.wasm_base.proofs.Words.{true, refl, fault_stays, if_err_more, on_ok}
use Rattle.wasm_custom.proofs.DecodeNamed.{counted_none, no_items}
use Rattle.wasm_custom.proofs.WalkCustoms.{listed_walks}
use Rattle.wasm_custom.proofs.item_walks.walk_counted.Goals as goal

pub returns-in_err-rest-clause-none : goal.returns-in_err-rest-clause-none
returns-in_err-rest-clause-none g c = fault_stays c.from_residual.result _ c.from_residual.ensures.1 λ n. counted_none refl g.T.Layout.format c.args.bytes.now (c.in_err-rest.ensures.none n)

pub returns-clause-none : goal.returns-clause-none
returns-clause-none g c = if_err_more c.walk_whole.result (λ e none n. no_items c.args.name.now true g.T.Layout.format c.args.bytes.now _ c.in_ok-rest.ensures.found (none n)) c.walk_whole.ensures.none

pub returns-clause-found : goal.returns-clause-found
returns-clause-found g c = on_ok c.walk_whole.result _ _ c.walk_whole.ensures.found (λ h. listed_walks g.G.Grammar.grammar c.args.name.now true g.T.Layout.format c.in_ok-rest.ensures.found c.in_ok-put.ensures.ok h)
