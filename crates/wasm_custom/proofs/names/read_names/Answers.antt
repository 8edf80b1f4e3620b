use Rattle.wasm_custom.proofs.Common.{refl, tagged_begins, fault_stays, names_none, names_fill, no_names}
use Rattle.wasm_custom.proofs.names.read_names.Goals as goal

pub returns-in_err-rest-clause-none : goal.returns-in_err-rest-clause-none
returns-in_err-rest-clause-none g c = fault_stays c.from_residual.result _ c.from_residual.ensures.1 λ n. names_none c.args.bytes.now (c.in_err-rest.ensures.none n)

pub returns-in_err-items-clause-none : goal.returns-in_err-items-clause-none
returns-in_err-items-clause-none g c = fault_stays c.from_residual-in_err-items.result _ c.from_residual-in_err-items.ensures.1 λ n. no_names c.args.bytes.now _ c.in_ok-rest.ensures.found (c.in_err-items.ensures.none n)

pub returns-clause-found : goal.returns-clause-found
returns-clause-found g c = search (names_fill, c.in_ok-rest.ensures.found, c.in_ok-items.ensures.found)

pub read_to_end-requires : goal.read_to_end-requires
read_to_end-requires g c = λ l. ((refl, tt), λ mode s x h. tagged_begins mode s x h)
