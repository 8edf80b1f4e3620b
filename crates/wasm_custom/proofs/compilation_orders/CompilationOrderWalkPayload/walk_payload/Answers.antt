use Rattle.wasm_base.proofs.Words.{sym, ◌∙◌, fault_stays, if_err_more}
use Rattle.wasm_custom.proofs.Common.{eqb-true, eqb-false, on_ok}
use Rattle.wasm_custom.proofs.MetadataLaws.{order_alone_walks, order_none, order_with_walks, order_rejects}
use Rattle.wasm_custom.proofs.compilation_orders.CompilationOrderWalkPayload.walk_payload.Goals as goal

pub returns-in_err-rest-clause-none : goal.returns-in_err-rest-clause-none
returns-in_err-rest-clause-none g c = fault_stays c.from_residual.result _ c.from_residual.ensures.1 λ n. order_none c.args.bytes.now (c.in_err-rest.ensures.none n)

pub returns-then-is_empty-clause-found : goal.returns-then-is_empty-clause-found
returns-then-is_empty-clause-found g c =
    order_alone_walks g.E.Effect.seen g.G.Grammar.grammar c.args.bytes.now c.in_ok-rest.rest.now _ _ c.walk.new.effect c.in_ok-rest.ensures.found (eqb-true _ _ (sym c.is_empty.ensures ∙ c.if-is_empty.true))

pub returns-clause-found : goal.returns-clause-found
returns-clause-found g c = on_ok c.walk_whole.result _ _ c.walk_whole.ensures.found λ h. order_with_walks g.E.Effect.seen g.G.Grammar.grammar c.args.bytes.now c.in_ok-rest.rest.now _ _ _ c.in_ok-rest.ensures.found h

pub returns-clause-none : goal.returns-clause-none
returns-clause-none g c = if_err_more c.walk_whole.result (λ e none n.
    order_rejects c.args.bytes.now c.in_ok-rest.rest.now _ c.in_ok-rest.ensures.found.decoded (eqb-false _ _ (sym c.is_empty.ensures ∙ c.if-is_empty.false)) (none n)) c.walk_whole.ensures.none
