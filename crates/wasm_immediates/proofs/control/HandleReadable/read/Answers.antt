use Rattle.wasm_immediates.proofs.Common.{fault_stays, handle_on_switch, handle_none, handle_no_label, handle_no_switch, handle_on_label}
use Rattle.wasm_immediates.proofs.control.HandleReadable.read.Goals as goal

pub returns-in_err-kind-clause-none : goal.returns-in_err-kind-clause-none
returns-in_err-kind-clause-none g c = fault_stays c.from_residual.result _ c.from_residual.ensures.1 λ n. handle_none c.args.bytes.now (c.in_err-kind.ensures.none n)

pub returns-in_err-tag-in-0-clause-none : goal.returns-in_err-tag-in-0-clause-none
returns-in_err-tag-in-0-clause-none g c = fault_stays c.from_residual-in_err-tag-in-0.result _ c.from_residual-in_err-tag-in-0.ensures.1 λ n. handle_no_label c.args.bytes.now _ _ c.in_ok-kind.ensures.found c.in-0.is (c.in_err-tag-in-0.ensures.none n)

pub returns-in_err-tag-in-1-clause-none : goal.returns-in_err-tag-in-1-clause-none
returns-in_err-tag-in-1-clause-none g c = fault_stays c.from_residual-in_err-tag-in-1.result _ c.from_residual-in_err-tag-in-1.ensures.1 λ n. handle_no_switch c.args.bytes.now _ _ c.in_ok-kind.ensures.found c.in-1.is (c.in_err-tag-in-1.ensures.none n)

pub returns-in_ok-tag-in-1-clause-found : goal.returns-in_ok-tag-in-1-clause-found
returns-in_ok-tag-in-1-clause-found g c = handle_on_switch c.args.bytes.now _ _ _ _ c.in_ok-kind.ensures.found c.in-1.is c.in_ok-tag-in-1.ensures.found

pub returns-in_ok-tag-in-0-clause-found : goal.returns-in_ok-tag-in-0-clause-found
returns-in_ok-tag-in-0-clause-found g c = search (handle_on_label, c.in_ok-kind.ensures.found, c.in-0.is, c.in_ok-tag-in-0.ensures.found)
