use Rattle.wasm_custom.proofs.Common.{refl, fault_stays, link_begins, links_none, links_fill, links_no_version, no_links}
use Rattle.wasm_custom.proofs.linking.read_links.Goals as goal

pub returns-in_err-rest-clause-none : goal.returns-in_err-rest-clause-none
returns-in_err-rest-clause-none g c = fault_stays c.from_residual.result _ c.from_residual.ensures.1 λ n. links_none c.args.bytes.now (c.in_err-rest.ensures.none n)

pub returns-clause-found : goal.returns-clause-found
returns-clause-found g c = search (links_fill, c.in_ok-rest.ensures.found, c.in_ok-rest-2.ensures.found, c.in_ok-items.ensures.found)

pub returns-in_err-rest-2-clause-none : goal.returns-in_err-rest-2-clause-none
returns-in_err-rest-2-clause-none g c = fault_stays c.from_residual-in_err-rest-2.result _ c.from_residual-in_err-rest-2.ensures.1 λ n. links_no_version c.args.bytes.now _ c.in_ok-rest.ensures.found (c.in_err-rest-2.ensures.none n)

pub returns-in_err-items-clause-none : goal.returns-in_err-items-clause-none
returns-in_err-items-clause-none g c = fault_stays c.from_residual-in_err-items.result _ c.from_residual-in_err-items.ensures.1 λ n. no_links c.args.bytes.now _ _ c.in_ok-rest.ensures.found c.in_ok-rest-2.ensures.found (c.in_err-items.ensures.none n)

pub read_to_end-requires : goal.read_to_end-requires
read_to_end-requires g c = λ l. ((refl, tt), λ mode s x h. link_begins mode s x h)
