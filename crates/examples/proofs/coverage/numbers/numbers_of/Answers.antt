use Rattle.std.proofs.Common.{refl, subst, sym}
use Rattle.wasm_reader.proofs.DecodeOutlines.{no_header}
use Rattle.wasm_reader.proofs.IteratingLaws.{next_error, next_section, section_shrinks}
use Rattle.examples.specs.Coverage.{Explains}
use Rattle.examples.proofs.CoverageLaws.{all_read, explained, malformed, no_numbers, passed_on, read_more, read_none}
use Rattle.examples.proofs.coverage.numbers.numbers_of.Goals as goal

pub returns-in_err-sections-clause-why : goal.returns-in_err-sections-clause-why
returns-in_err-sections-clause-why g c = passed_on c.from_residual.result c.from_residual.ensures.1 (λ y e. subst (Explains c.args.bytes.now) (sym e) (λ n d. (no_header c.args.bytes.now c.in_err-sections.ensures.none).none d.sections d.read))

pub loop-section-init : goal.loop-section-init
loop-section-init g c = read_none c.in_ok-sections.ensures.found c.in_ok-sections.ensures.offset (no_numbers 0 0 0 refl refl refl)

pub returns-in-None-clause-found : goal.returns-in-None-clause-found
returns-in-None-clause-found g c = all_read c.if-bytes-ge-MAX_LENGTH.false c.loop-section.invariant c.in-None.ensures.steps.0

pub returns-in_err-section-in-Some-clause-why : goal.returns-in_err-section-in-Some-clause-why
returns-in_err-section-in-Some-clause-why g c = passed_on c.from_residual-in_err-section-in-Some.result c.from_residual-in_err-section-in-Some.ensures.1 (λ y e. subst (Explains c.args.bytes.now) (sym e) (malformed c.loop-section.invariant (next_error c.in_err-section-in-Some.was c.in-Some.ensures.steps)))

pub returns-in_err-more-clause-why : goal.returns-in_err-more-clause-why
returns-in_err-more-clause-why g c =
    let given = next_section c.in_ok-section-in-Some.was c.in-Some.ensures.steps in
    passed_on c.from_residual-in_err-more.result c.from_residual-in_err-more.ensures.1 (λ y e. subst (Explains c.args.bytes.now) (sym e) (explained c.loop-section.invariant given _ (c.in_err-more.ensures.why given.is_section)))

pub loop-section-smaller : goal.loop-section-smaller
loop-section-smaller g c = section_shrinks (next_section c.in_ok-section-in-Some.was c.in-Some.ensures.steps)

pub loop-section-preserved : goal.loop-section-preserved
loop-section-preserved g c =
    let given = next_section c.in_ok-section-in-Some.was c.in-Some.ensures.steps in
    read_more c.loop-section.invariant given (c.in_ok-more.ensures.found given.is_section) c.in-Some-sum.ensures
