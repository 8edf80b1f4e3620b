use Rattle.wasm_custom.proofs.Common.{refl, dylink_begins, fault_stays, section_none, section_fills, section_rejects}
use Rattle.wasm_custom.proofs.dylink.read_dylink.Goals as goal

pub returns-in_err-rest-clause-none : goal.returns-in_err-rest-clause-none
returns-in_err-rest-clause-none g c = fault_stays c.from_residual.result _ c.from_residual.ensures.1 λ n. section_none c.args.bytes.now (c.in_err-rest.ensures.none n)

pub returns-in_err-items-clause-none : goal.returns-in_err-items-clause-none
returns-in_err-items-clause-none g c = fault_stays c.from_residual-in_err-items.result _ c.from_residual-in_err-items.ensures.1 λ n. section_rejects c.args.bytes.now _ c.in_ok-rest.ensures.found (c.in_err-items.ensures.none n)

pub returns-clause-found : goal.returns-clause-found
returns-clause-found g c = search (section_fills, c.in_ok-rest.ensures.found, c.in_ok-items.ensures.found)

pub read_to_end-requires : goal.read_to_end-requires
read_to_end-requires g c = λ l. ((refl, tt), λ mode s x h. dylink_begins mode s x h)
