use Rattle.wasm_custom.proofs.Common.{sym, ◌∙◌, not_from_Decides, bytes_eq-Decides, fault_stays, name_none, name_other}
use Rattle.wasm_custom.proofs.named.after_name.Goals as goal

pub returns-else-eq-clause-none : goal.returns-else-eq-clause-none
returns-else-eq-clause-none g c = λ n.
    let known = c.in_ok-known.known.now in
    name_other c.args.name.now c.args.bytes.now _ known c.in_ok-known.ensures.found (not_from_Decides _ (bytes_eq-Decides known c.args.name.now) (sym c.eq.ensures ∙ c.if-eq.false))

pub returns-in_err-known-clause-none : goal.returns-in_err-known-clause-none
returns-in_err-known-clause-none g c = fault_stays c.from_residual.result _ c.from_residual.ensures.1 λ n. name_none c.args.name.now c.args.bytes.now (c.in_err-known.ensures.none n)
