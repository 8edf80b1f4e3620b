use Rattle.wasm_reader.proofs.Common.{◌≡◌, ◌+◌, suc, length, sym, subst, ◌∙◌, ap, arith, header, EndsAt, ahead, HasOutlined, no_header, outlined_ends, outlined_none, outlined_step, end_stays}
use Rattle.wasm_reader.proofs.Common.{next_error, next_section}
use Rattle.wasm_reader.proofs.outlines.outline.Goals as goal

pub returns-in-Err-clause-no_module : goal.returns-in-Err-clause-no_module
returns-in-Err-clause-no_module g c = λ n. no_header c.args.bytes.now c.in-Err.ensures.none

pub returns-in-Err-clause-header : goal.returns-in-Err-clause-header
returns-in-Err-clause-header g c = λ e n. c.in-Err.ensures.why.cause

pub returns-in-Some-Err-clause-none : goal.returns-in-Some-Err-clause-none
returns-in-Some-Err-clause-none g c = λ n.
    let e = next_error c.in-Some-Err.field-0-is c.in-Some-Err.ensures.steps in
    let behind : suc (length c.loop-lines.lines.items) ≡ c.len-number.result + 1 = omega (arith, c.len-number.ensures) in
    subst (λ z. EndsAt c.args.bytes.now z) behind (outlined_ends c.args.bytes.now _ _ c.loop-lines.lines.items c.in-Ok.ensures.found c.loop-lines.invariant.0 e.more (e.none n))

pub returns-in-Some-Err-clause-no_module : goal.returns-in-Some-Err-clause-no_module
returns-in-Some-Err-clause-no_module g c = λ n.
    let e = next_error c.in-Some-Err.field-0-is c.in-Some-Err.ensures.steps in
    outlined_none c.args.bytes.now _ _ c.loop-lines.lines.items c.in-Ok.ensures.found c.loop-lines.invariant.0 e.more (e.none n)

pub loop-lines-preserved : goal.loop-lines-preserved
loop-lines-preserved g c =
    let s = next_section c.in-Some-Ok.field-0-is c.in-Some-Ok.ensures.steps in
    let before = c.loop-lines.invariant in (
      subst (λ z. HasOutlined (length header) (ahead c.in-Ok.sections) z (ahead c.next.new.self)) (sym c.in-Ok-push.ensures.items)
          (outlined_step (length header) _ _ _ _ c.loop-lines.lines.items c.in-Ok-line_of.line _ before.0 s.is_section s.split c.in-Ok-line_of.ensures.found (ap (λ z. z + length (ahead c.loop-lines.sections)) s.offset ∙ before.1)),
      end_stays s ∙ before.1,
    )
