use Rattle.wasm_base.proofs.Words.{Some, ap, sym, ◌∙◌, eqb-true, eqb-false, vec, vec_unambiguous, fault_stays, whole_decodes, whole_more, whole_rejects}
use Rattle.wasm_reader.proofs.walk.count_members.Goals as goal

pub returns-in_err-count-clause-none : goal.returns-in_err-count-clause-none
returns-in_err-count-clause-none g c = fault_stays c.from_residual.result _ c.from_residual.ensures.1 λ n. whole_rejects (vec g.P.Layout.format) c.args.bytes.now (c.in_err-count.ensures.none n)

pub returns-else-is_empty-clause-none : goal.returns-else-is_empty-clause-none
returns-else-is_empty-clause-none g c = λ n.
    let xs = c.in_ok-count.ensures.found in
    whole_more (vec g.P.Layout.format) c.args.bytes.now _ xs.0 (vec_unambiguous c.laws.ensures) xs.1 (eqb-false _ _ (sym c.is_empty.ensures ∙ c.if-is_empty.false))

pub returns-then-is_empty-clause-found : goal.returns-then-is_empty-clause-found
returns-then-is_empty-clause-found g c =
    let xs = c.in_ok-count.ensures.found in
    (xs.0, whole_decodes (vec g.P.Layout.format) c.args.bytes.now _ xs.0 xs.1 (eqb-true _ _ (sym c.is_empty.ensures ∙ c.if-is_empty.true)), ap Some xs.2)
