use Rattle.wasm_base.specs.{padded_of}
use Rattle.wasm_base.proofs.Std.{◌∙◌, subst, sym, eqb-true, eqb-false}
use Rattle.wasm_base.proofs.DecodeSizePrefixed.{none_left}
use Rattle.wasm_base.proofs.DecodeWhole.{HasMembers, member_shorter, members_continued, members_fail, members_done, empty_not}
use Rattle.wasm_base.proofs.Faults.{fault_stays, memory_stays}
use Rattle.wasm_base.proofs.whole.read_to_end.Goals as goal

pub returns-then-is_empty-clause-found : goal.returns-then-is_empty-clause-found
returns-then-is_empty-clause-found g c = members_done g.T.Layout.format g.T.Layout.view c.args.bytes.now c.loop-rest.rest.now c.loop-rest.items.items c.loop-rest.invariant (none_left c.loop-rest.rest.now (eqb-true _ _ (sym c.is_empty.ensures ∙ c.if-is_empty.true)))

pub returns-in_err-item-clause-none : goal.returns-in_err-item-clause-none
returns-in_err-item-clause-none g c = fault_stays c.from_residual.result _ c.from_residual.ensures.1 λ n.
    members_fail g.T.Layout.format g.T.Layout.view c.args.bytes.now c.loop-rest.rest.now c.loop-rest.items.items c.loop-rest.invariant (empty_not c.loop-rest.rest.now (eqb-false _ _ (sym c.is_empty.ensures ∙ c.if-is_empty.false))) (c.in_err-item.ensures.none n)

pub loop-rest-preserved : goal.loop-rest-preserved
loop-rest-preserved g c =
    subst (λ z. HasMembers g.T.Layout.format (padded_of g.G.Grammar.grammar) g.T.Layout.view c.args.bytes.now z c.in_ok-item.after.now) (sym c.in_ok-push.ensures.items)
    (members_continued g.T.Layout.format g.T.Layout.view c.args.bytes.now c.laws.ensures c.loop-rest.rest.now c.in_ok-item.after.now c.loop-rest.items.items c.in_ok-item.item c.loop-rest.invariant (empty_not c.loop-rest.rest.now (eqb-false _ _ (sym c.is_empty.ensures ∙ c.if-is_empty.false))) c.in_ok-item.ensures.found)

pub returns-in_err-push-clause-none : goal.returns-in_err-push-clause-none
returns-in_err-push-clause-none g c = memory_stays _ c.from_residual-in_err-push.result c.from_residual-in_err-push.ensures.1

pub loop-rest-smaller : goal.loop-rest-smaller
loop-rest-smaller g c = member_shorter g.T.Layout.format c.loop-rest.rest.now c.in_ok-item.after.now _ c.requires c.in_ok-item.ensures.found
