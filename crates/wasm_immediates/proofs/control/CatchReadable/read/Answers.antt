use Rattle.wasm_immediates.proofs.Common.{fault_stays, catch_one, catch_one_ref, catch_all, catch_none, catch_no_one, catch_no_one_ref, catch_no_all, catch_no_all_ref, catch_all_ref}
use Rattle.wasm_immediates.proofs.control.CatchReadable.read.Goals as goal

pub returns-in_err-kind-clause-none : goal.returns-in_err-kind-clause-none
returns-in_err-kind-clause-none g c = fault_stays c.from_residual.result _ c.from_residual.ensures.1 λ n. catch_none c.args.bytes.now (c.in_err-kind.ensures.none n)

pub returns-in_err-tag-in-0-clause-none : goal.returns-in_err-tag-in-0-clause-none
returns-in_err-tag-in-0-clause-none g c = fault_stays c.from_residual-in_err-tag-in-0.result _ c.from_residual-in_err-tag-in-0.ensures.1 λ n. catch_no_one c.args.bytes.now _ _ c.in_ok-kind.ensures.found c.in-0.is (c.in_err-tag-in-0.ensures.none n)

pub returns-in_err-tag-in-1-clause-none : goal.returns-in_err-tag-in-1-clause-none
returns-in_err-tag-in-1-clause-none g c = fault_stays c.from_residual-in_err-tag-in-1.result _ c.from_residual-in_err-tag-in-1.ensures.1 λ n. catch_no_one_ref c.args.bytes.now _ _ c.in_ok-kind.ensures.found c.in-1.is (c.in_err-tag-in-1.ensures.none n)

pub returns-in_err-label-in-2-clause-none : goal.returns-in_err-label-in-2-clause-none
returns-in_err-label-in-2-clause-none g c = fault_stays c.from_residual-in_err-label-in-2.result _ c.from_residual-in_err-label-in-2.ensures.1 λ n. catch_no_all c.args.bytes.now _ _ c.in_ok-kind.ensures.found c.in-2.is (c.in_err-label-in-2.ensures.none n)

pub returns-in_err-label-in-3-clause-none : goal.returns-in_err-label-in-3-clause-none
returns-in_err-label-in-3-clause-none g c = fault_stays c.from_residual-in_err-label-in-3.result _ c.from_residual-in_err-label-in-3.ensures.1 λ n. catch_no_all_ref c.args.bytes.now _ _ c.in_ok-kind.ensures.found c.in-3.is (c.in_err-label-in-3.ensures.none n)

pub returns-in_ok-tag-in-0-clause-found : goal.returns-in_ok-tag-in-0-clause-found
returns-in_ok-tag-in-0-clause-found g c = catch_one c.args.bytes.now _ _ _ _ _ c.in_ok-kind.ensures.found c.in-0.is c.in_ok-tag-in-0.ensures.found

pub returns-in_ok-tag-in-1-clause-found : goal.returns-in_ok-tag-in-1-clause-found
returns-in_ok-tag-in-1-clause-found g c = catch_one_ref c.args.bytes.now _ _ _ _ _ c.in_ok-kind.ensures.found c.in-1.is c.in_ok-tag-in-1.ensures.found

pub returns-in_ok-label-in-2-clause-found : goal.returns-in_ok-label-in-2-clause-found
returns-in_ok-label-in-2-clause-found g c = catch_all c.args.bytes.now _ _ _ _ c.in_ok-kind.ensures.found c.in-2.is c.in_ok-label-in-2.ensures.found

pub returns-in_ok-label-in-3-clause-found : goal.returns-in_ok-label-in-3-clause-found
returns-in_ok-label-in-3-clause-found g c = search (catch_all_ref, c.in_ok-kind.ensures.found, c.in-3.is, c.in_ok-label-in-3.ensures.found)
