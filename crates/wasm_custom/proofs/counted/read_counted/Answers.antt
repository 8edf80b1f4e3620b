use Rattle.wasm_custom.proofs.Common.{sym, ◌∙◌, eqb-false, eqb-true, fault_stays, counted_none, counted_decodes, counted_rejects, counted_more}
use Rattle.wasm_custom.proofs.counted.read_counted.Goals as goal

pub returns-in_err-rest-clause-none : goal.returns-in_err-rest-clause-none
returns-in_err-rest-clause-none g c = fault_stays c.from_residual.result _ c.from_residual.ensures.1 λ n. counted_none c.name.ensures g.K.ItemsAs.format c.args.bytes.now (c.in_err-rest.ensures.none n)

pub returns-in_err-items-clause-none : goal.returns-in_err-items-clause-none
returns-in_err-items-clause-none g c = fault_stays c.from_residual-in_err-items.result _ c.from_residual-in_err-items.ensures.1 λ n. counted_rejects c.name.ensures g.K.ItemsAs.format c.args.bytes.now c.in_ok-rest.ensures.found (c.in_err-items.ensures.none n)

pub returns-else-is_empty-clause-none : goal.returns-else-is_empty-clause-none
returns-else-is_empty-clause-none g c = λ n.
    counted_more c.name.ensures g.K.ItemsAs.format c.args.bytes.now c.in_ok-rest.ensures.found c.unique.ensures c.in_ok-items.left.now _ c.in_ok-items.ensures.found (eqb-false _ _ (sym c.is_empty.ensures ∙ c.if-is_empty.false))

pub returns-then-is_empty-clause-found : goal.returns-then-is_empty-clause-found
returns-then-is_empty-clause-found g c =
    counted_decodes c.name.ensures g.K.ItemsAs.format c.args.bytes.now c.in_ok-rest.ensures.found c.in_ok-items.left.now _ c.in_ok-items.ensures.found (eqb-true _ _ (sym c.is_empty.ensures ∙ c.if-is_empty.true))
