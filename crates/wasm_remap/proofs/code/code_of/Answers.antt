use Rattle.wasm_base.proofs.Words.{inl, inr}
use Rattle.wasm_remap.specs.Errors.{ExplainsBodies}
use Rattle.wasm_remap.proofs.BegunLaws.{edited_all, edited_more, edited_none, body_shrinks, given_body, given_error, no_body, no_error, no_number}
use Rattle.wasm_remap.proofs.ErrorLaws.{bodies_explained, fails_with, read_explained}
use Rattle.wasm_remap.proofs.code.code_of.Goals as goal

pub loop-new-init : goal.loop-new-init
loop-new-init g c = λ all h. edited_none _ all c.in_ok-bodies.ensures.found h c.new-new.ensures

pub returns-in-None-clause-ok : goal.returns-in-None-clause-ok
returns-in-None-clause-ok g c = λ all h. edited_all (c.loop-new.invariant all h) c.in-None.ensures.steps.1

pub loop-new-smaller : goal.loop-new-smaller
loop-new-smaller g c = body_shrinks (given_body c.in_ok-body-in-Some.was c.in-Some.ensures.steps)

pub loop-new-preserved : goal.loop-new-preserved
loop-new-preserved g c = λ all h. edited_more c.in-Some-checked_add.next (c.loop-new.invariant all h) (given_body c.in_ok-body-in-Some.was c.in-Some.ensures.steps) c.in_ok-add_body.ensures.ok c.in-Some-checked_add.ensures.1

pub returns-in_err-bodies-clause-why : goal.returns-in_err-bodies-clause-why
returns-in_err-bodies-clause-why g c = λ id.
    let why = ExplainsBodies c.args.section.now.section.payload in
    fails_with why c.from_residual.result _ c.from_residual.ensures.1 (read_explained why _ tt (λ n. record { none = λ all h. elim (c.in_err-bodies.ensures.none n) [ inl k ↦ k id | inr r ↦ no_number all h r ] }))

pub returns-in_err-body-in-Some-clause-why : goal.returns-in_err-body-in-Some-clause-why
returns-in_err-body-in-Some-clause-why g c = λ id.
    let why = ExplainsBodies c.args.section.now.section.payload in
    fails_with why c.from_residual-in_err-body-in-Some.result _ c.from_residual-in_err-body-in-Some.ensures.1 (read_explained why _ tt (λ n. record { none = λ all h. no_error (c.loop-new.invariant all h) (given_error c.in_err-body-in-Some.was c.in-Some.ensures.steps) n }))

pub returns-in_err-add_body-clause-why : goal.returns-in_err-add_body-clause-why
returns-in_err-add_body-clause-why g c = λ id.
    let why = ExplainsBodies c.args.section.now.section.payload in
    fails_with why c.from_residual-in_err-add_body.result _ c.from_residual-in_err-add_body.ensures.1 (bodies_explained _ (λ r. record { none = λ all h. no_body (c.loop-new.invariant all h) (given_body c.in_ok-body-in-Some.was c.in-Some.ensures.steps) r }) c.in_err-add_body.ensures.why)
