use Rattle.wasm_base.proofs.Std.{sym, ◌∙◌, eqb-false, eqb-true}
use Rattle.wasm_base.proofs.DecodeWhole.{whole_more, whole_rejects}
use Rattle.wasm_base.proofs.Faults.{fault_stays}
use Rattle.wasm_base.proofs.WalkLaws.{whole_walks}
use Rattle.wasm_base.proofs.walk.walk_whole.Goals as goal

pub returns-in_err-rest-clause-none : goal.returns-in_err-rest-clause-none
returns-in_err-rest-clause-none g c = fault_stays c.from_residual.result _ c.from_residual.ensures.1 λ n. whole_rejects _ c.args.bytes.now (c.in_err-rest.ensures.none n)

pub returns-else-is_empty-clause-none : goal.returns-else-is_empty-clause-none
returns-else-is_empty-clause-none g c = λ n.
    let h = c.in_ok-rest.ensures.found in
    whole_more g.T.Layout.format c.args.bytes.now c.in_ok-rest.rest.now h.value c.laws.ensures h.decoded (eqb-false _ _ (sym c.is_empty.ensures ∙ c.if-is_empty.false))

pub returns-then-is_empty-clause-found : goal.returns-then-is_empty-clause-found
returns-then-is_empty-clause-found g c = whole_walks g.E.Effect.seen g.G.Grammar.grammar g.T.Layout.format c.args.bytes.now c.in_ok-rest.rest.now _ _ c.in_ok-rest.ensures.found (eqb-true _ _ (sym c.is_empty.ensures ∙ c.if-is_empty.true))
