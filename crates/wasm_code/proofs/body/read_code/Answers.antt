use Rattle.wasm_base.proofs.Words.{padded_of, ◌∙◌, subst, sym, eqb-true, eqb-false, fault_stays, memory_stays, none_left, HasMembers, members_continued, members_fail, members_done, empty_not}
use Rattle.wasm_insn.proofs.Words.{instruction, table, unique, plain_view}
use Rattle.wasm_code.proofs.body.read_code.Goals as goal

pub returns-then-is_empty-clause-found : goal.returns-then-is_empty-clause-found
returns-then-is_empty-clause-found g c = members_done (instruction table) plain_view c.args.bytes.now c.loop-rest.rest.now c.loop-rest.items.items c.loop-rest.invariant (none_left c.loop-rest.rest.now (eqb-true _ _ (sym c.is_empty.ensures ∙ c.if-is_empty.true)))

pub returns-in_err-item-clause-none : goal.returns-in_err-item-clause-none
returns-in_err-item-clause-none g c = fault_stays c.from_residual-in_err-item.result _ c.from_residual-in_err-item.ensures.1 λ n.
    members_fail (instruction table) plain_view c.args.bytes.now c.loop-rest.rest.now c.loop-rest.items.items c.loop-rest.invariant (empty_not c.loop-rest.rest.now (eqb-false _ _ (sym c.is_empty.ensures ∙ c.if-is_empty.false))) (c.in_err-item.ensures.none n)

pub loop-rest-preserved : goal.loop-rest-preserved
loop-rest-preserved g c =
    subst (λ z. HasMembers (instruction table) (padded_of g.G.Grammar.grammar) plain_view c.args.bytes.now z c.in_ok-item.after.now) (sym c.in_ok-push.ensures.items)
    (members_continued (instruction table) plain_view c.args.bytes.now unique c.loop-rest.rest.now c.in_ok-item.after.now c.loop-rest.items.items c.in_ok-item.item c.loop-rest.invariant (empty_not c.loop-rest.rest.now (eqb-false _ _ (sym c.is_empty.ensures ∙ c.if-is_empty.false))) c.in_ok-item.ensures.found)

pub returns-in_err-items-clause-none : goal.returns-in_err-items-clause-none
returns-in_err-items-clause-none g c = memory_stays _ c.from_residual.result c.from_residual.ensures.1
