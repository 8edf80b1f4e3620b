use Rattle.examples.proofs.Common.{sym, subst, ◌∙◌, no_header, no_module, next_error, next_section, section_ahead, IsStripped, stripped_custom, stripped_done, stripped_kept}
use Rattle.examples.proofs.StrippedLaws.{error_stays}
use Rattle.examples.proofs.stripped.without_custom.Goals as goal

pub returns-in_err-sections-clause-none : goal.returns-in_err-sections-clause-none
returns-in_err-sections-clause-none g c = error_stays c.from_residual.result _ c.from_residual.ensures.1 λ n. no_header c.args.bytes.now c.in_err-sections.ensures.none

pub returns-in-None-clause-found : goal.returns-in-None-clause-found
returns-in-None-clause-found g c = subst (λ z. IsStripped c.args.bytes.now z) (sym c.finish.ensures) (stripped_done c.args.bytes.now c.in_ok-sections.ensures.found c.loop-kept.invariant c.in-None.ensures.steps.0)

pub returns-in_err-section-in-Some-clause-none : goal.returns-in_err-section-in-Some-clause-none
returns-in_err-section-in-Some-clause-none g c = error_stays c.from_residual-in_err-section-in-Some.result _ c.from_residual-in_err-section-in-Some.ensures.1 λ n.
    let e = next_error c.in_err-section-in-Some.was c.in-Some.ensures.steps in
    no_module c.args.bytes.now _ _ c.loop-kept.invariant.sections c.in_ok-sections.ensures.found c.loop-kept.invariant.read e.more (e.none n)

pub loop-kept-preserved-then-id-eq0 : goal.loop-kept-preserved-then-id-eq0
loop-kept-preserved-then-id-eq0 g c = stripped_custom c.loop-kept.invariant (sym c.id.ensures ∙ c.if-id-eq0.true) (section_ahead (next_section c.in_ok-section-in-Some.was c.in-Some.ensures.steps))

pub loop-kept-preserved : goal.loop-kept-preserved
loop-kept-preserved g c = stripped_kept c.loop-kept.invariant (λ e. c.if-id-eq0.false (c.id.ensures ∙ e)) (section_ahead (next_section c.in_ok-section-in-Some.was c.in-Some.ensures.steps)) c.in-Ok-copy.ensures.ok
