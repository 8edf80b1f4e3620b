use Rattle.wasm_base.proofs.Std.{◌∙◌, sym, eqb-true, eqb-false}
use Rattle.wasm_base.proofs.DecodeSizePrefixed.{none_left}
use Rattle.wasm_base.proofs.DecodeWhole.{member_shorter, members_fail, empty_not}
use Rattle.wasm_base.proofs.Faults.{fault_stays}
use Rattle.wasm_base.proofs.WalkLaws.{walked_begun, walked_continued, walked_done}
use Rattle.wasm_base.proofs.walk.walk_to_end.Goals as goal

pub loop-rest-init : goal.loop-rest-init
loop-rest-init g c = walked_begun g.T.Layout.format c.args.bytes.now _

pub returns-then-is_empty-clause-found : goal.returns-then-is_empty-clause-found
returns-then-is_empty-clause-found g c = walked_done g.T.Layout.format c.args.bytes.now c.loop-rest.rest.now _ _ c.loop-rest.invariant (none_left c.loop-rest.rest.now (eqb-true _ _ (sym c.is_empty.ensures ∙ c.if-is_empty.true)))

pub returns-in_err-rest-clause-none : goal.returns-in_err-rest-clause-none
returns-in_err-rest-clause-none g c = fault_stays c.from_residual.result _ c.from_residual.ensures.1 λ n.
    members_fail g.T.Layout.format (λ x. x) c.args.bytes.now c.loop-rest.rest.now c.loop-rest.invariant.values c.loop-rest.invariant.read (empty_not c.loop-rest.rest.now (eqb-false _ _ (sym c.is_empty.ensures ∙ c.if-is_empty.false))) (c.in_err-rest.ensures.none n)

pub loop-rest-preserved : goal.loop-rest-preserved
loop-rest-preserved g c =
    walked_continued g.T.Layout.format c.args.bytes.now c.laws.ensures c.loop-rest.rest.now c.in_ok-rest.rest.now _ _ _ c.loop-rest.invariant (empty_not c.loop-rest.rest.now (eqb-false _ _ (sym c.is_empty.ensures ∙ c.if-is_empty.false))) c.in_ok-rest.ensures.found

pub loop-rest-smaller : goal.loop-rest-smaller
loop-rest-smaller g c = member_shorter g.T.Layout.format c.loop-rest.rest.now c.in_ok-rest.rest.now c.in_ok-rest.ensures.found.value c.requires.begun c.in_ok-rest.ensures.found.decoded
