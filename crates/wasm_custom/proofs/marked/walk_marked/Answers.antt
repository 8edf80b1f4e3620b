use Rattle.wasm_base.proofs.Words.{rules, fault_stays}
use Rattle.wasm_custom.proofs.DecodeMarked.{marked_none, marked_rejects}
use Rattle.wasm_custom.proofs.marked.walk_marked.Goals as goal

pub returns-in_err-first-clause-none : goal.returns-in_err-first-clause-none
returns-in_err-first-clause-none g c = fault_stays c.from_residual.result _ c.from_residual.ensures.1 λ n. marked_none _ _ c.args.bytes.now (c.in_err-first.ensures.none n)

pub returns-in_err-rest-clause-none : goal.returns-in_err-rest-clause-none
returns-in_err-rest-clause-none g c = fault_stays c.from_residual-in_err-rest.result _ c.from_residual-in_err-rest.ensures.1 λ n. marked_rejects c.args.mark g.T.Layout.format c.args.bytes.now _ _ c.in_ok-first.ensures.found (search rules) (c.in_err-rest.ensures.none n)
