use Rattle.wasm_base.proofs.Std.{sym, ◌∙◌, eqb-false, eqb-true}
use Rattle.wasm_base.proofs.DecodeWhole.{whole_more, whole_decodes, whole_rejects}
use Rattle.wasm_base.proofs.Faults.{fault_stays}
use Rattle.wasm_base.proofs.whole.read_whole.Goals as goal

pub returns-else-is_empty-clause-none : goal.returns-else-is_empty-clause-none
returns-else-is_empty-clause-none g c = λ n.
    whole_more g.T.Layout.format c.args.bytes.now c.in_ok-value.left.now _ c.laws.ensures c.in_ok-value.ensures.found (eqb-false _ _ (sym c.is_empty.ensures ∙ c.if-is_empty.false))

pub returns-in_err-value-clause-none : goal.returns-in_err-value-clause-none
returns-in_err-value-clause-none g c = fault_stays c.from_residual.result _ c.from_residual.ensures.1 λ n. whole_rejects _ c.args.bytes.now (c.in_err-value.ensures.none n)

pub returns-then-is_empty-clause-found : goal.returns-then-is_empty-clause-found
returns-then-is_empty-clause-found g c = search (whole_decodes, c.in_ok-value.ensures.found, eqb-true _ _ (sym c.is_empty.ensures ∙ c.if-is_empty.true))
