use Rattle.wasm_base.proofs.Words.{fault_stays, if_err_more, on_ok}
use Rattle.wasm_custom.proofs.LinkLaws.{links_none, links_no_version, no_links}
use Rattle.wasm_custom.proofs.WalkLinks.{links_walk}
use Rattle.wasm_custom.proofs.link_walks.walk_links.Goals as goal

pub returns-in_err-rest-clause-none : goal.returns-in_err-rest-clause-none
returns-in_err-rest-clause-none g c = fault_stays c.from_residual.result _ c.from_residual.ensures.1 λ n. links_none c.args.bytes.now (c.in_err-rest.ensures.none n)

pub returns-in_err-rest-2-clause-none : goal.returns-in_err-rest-2-clause-none
returns-in_err-rest-2-clause-none g c = fault_stays c.from_residual-in_err-rest-2.result _ c.from_residual-in_err-rest-2.ensures.1 λ n. links_no_version c.args.bytes.now _ c.in_ok-rest.ensures.found (c.in_err-rest-2.ensures.none n)

pub returns-clause-none : goal.returns-clause-none
returns-clause-none g c = if_err_more c.walk_to_end.result (λ e none n. no_links c.args.bytes.now _ _ c.in_ok-rest.ensures.found c.in_ok-rest-2.ensures.found (none n)) c.walk_to_end.ensures.none

pub returns-clause-found : goal.returns-clause-found
returns-clause-found g c = on_ok c.walk_to_end.result _ _ c.walk_to_end.ensures.found (λ h. links_walk g.E.Effect.seen g.G.Grammar.grammar c.args.bytes.now _ _ _ _ _ _ c.in_ok-rest.ensures.found c.in_ok-rest-2.ensures.found c.in_ok-put.ensures.ok c.in_ok-put-2.ensures.ok h)
