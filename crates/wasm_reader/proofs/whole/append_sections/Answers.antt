use Rattle.wasm_reader.proofs.Common.{◌≡◌, length, refl, ◌∙◌, arith, none_left, ahead, end_stays, more_ahead, next_error, next_section, gains_same, rewrites_below, rewrites_longer, rewrites_rest}
use Rattle.wasm_reader.proofs.Common.{rewrites_start, rewrites_stop, rewrites_step}
use Rattle.wasm_reader.proofs.whole.append_sections.Goals as goal

pub loop-section-init : goal.loop-section-init
loop-section-init g c = (rewrites_start c.args.offsets (ahead c.args.sections) c.args.sink.now.items, omega arith, refl)

pub overflow_add-result : goal.overflow_add-result
overflow_add-result g c =
    let e = next_error c.in-Some-Err.field-0-is c.in-Some-Err.ensures.steps in
    let below = rewrites_below _ _ _ _ _ _ c.loop-section.invariant.0 c.requires (λ z. e.more (none_left _ z)) in
    omega (arith, below)

pub returns-in-Some-Err-clause-none : goal.returns-in-Some-Err-clause-none
returns-in-Some-Err-clause-none g c = λ n.
    let e = next_error c.in-Some-Err.field-0-is c.in-Some-Err.ensures.steps in
    rewrites_stop _ _ _ _ _ _ c.loop-section.invariant.0 e.more (e.none n)

pub overflow_add-number : goal.overflow_add-number
overflow_add-number g c =
    let s = next_section c.in-Some-Ok.field-0-is c.in-Some-Ok.ensures.steps in
    let below = rewrites_below _ _ _ _ _ _ c.loop-section.invariant.0 c.requires (λ z. more_ahead s (none_left _ z)) in
    omega (arith, below)

pub and-tally-requires : goal.and-tally-requires
and-tally-requires g c =
    let s = next_section c.in-Some-Ok.field-0-is c.in-Some-Ok.ensures.steps in
    (rewrites_below _ _ _ _ _ _ c.loop-section.invariant.0 c.requires (λ z. more_ahead s (none_left _ z)), c.loop-section.invariant.1)

pub loop-section-preserved : goal.loop-section-preserved
loop-section-preserved g c =
    let s = next_section c.in-Some-Ok.field-0-is c.in-Some-Ok.ensures.steps in
    let before = c.loop-section.invariant in
    let at_start : c.len-start.result ≡ length c.args.sink.now.items = search (c.len-start.ensures, c.args.sink.now.ok) in
    let at_end : c.len.result ≡ length c.loop-section.sink.items = search (c.len.ensures, c.loop-section.sink.ok) in
    let rest = rewrites_rest _ _ _ _ _ _ before.0 in
    let longer = rewrites_longer _ _ _ _ _ _ before.0 in (
      rewrites_step _ _ _ _ _ _ _ _ _ _ _ _ _ _ _ before.0 s.is_section s.split (gains_same c.standing.ensures c.in-Ok.ensures.ok) c.is_same-is_level.ensures
          (omega (arith, rest, before.2, s.offset, c.offset.ensures, c.offset-first.ensures)) (omega (arith, at_start, at_end, longer)) (λ ws w t e. c.and-tally.ensures.tallied ws w t (c.standing-in-loop-section.ensures ∙ e)),
      c.and-tally.ensures.kept,
      end_stays s ∙ before.2,
    )
