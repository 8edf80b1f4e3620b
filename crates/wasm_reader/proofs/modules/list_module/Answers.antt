use Rattle.wasm_reader.proofs.Common.{◌≡◌, ◌+◌, suc, length, ap, sym, subst, arith, StopsAt, ahead, HasListed, line_decodes, line_rejects, listed_done, listed_step, listed_stops, sized_rejects}
use Rattle.wasm_reader.proofs.Common.{id_ahead, more_ahead, next_error, next_section, payload_ahead}
use Rattle.wasm_reader.proofs.modules.list_module.Goals as goal

pub returns-in-Err-clause-header : goal.returns-in-Err-clause-header
returns-in-Err-clause-header g c = λ e n. c.in-Err.ensures.why.cause

pub returns-in-None-clause-found : goal.returns-in-None-clause-found
returns-in-None-clause-found g c = listed_done c.args.bytes.now _ _ c.loop-lines.lines.items c.in-Ok.ensures.found c.loop-lines.invariant (ap length c.in-None.ensures.steps.0)

pub returns-in-Some-Err-clause-none : goal.returns-in-Some-Err-clause-none
returns-in-Some-Err-clause-none g c = λ n.
    let e = next_error c.in-Some-Err.field-0-is c.in-Some-Err.ensures.steps in
    let behind : suc (length c.loop-lines.lines.items) ≡ c.len-number.result + 1 = omega (arith, c.len-number.ensures) in
    subst (λ z. StopsAt c.args.bytes.now z) behind (listed_stops c.args.bytes.now _ _ c.loop-lines.lines.items c.in-Ok.ensures.found c.loop-lines.invariant e.more (sized_rejects _ (e.none n)))

pub returns-in-Err-line_of-clause-none : goal.returns-in-Err-line_of-clause-none
returns-in-Err-line_of-clause-none g c = λ n.
    let s = next_section c.in-Some-Ok.field-0-is c.in-Some-Ok.ensures.steps in
    let behind : suc (length c.loop-lines.lines.items) ≡ c.len-number.result + 1 = omega (arith, c.len-number.ensures) in
    subst (λ z. StopsAt c.args.bytes.now z) behind
    (listed_stops c.args.bytes.now _ _ c.loop-lines.lines.items c.in-Ok.ensures.found c.loop-lines.invariant (more_ahead s) (line_rejects _ _ _ _ _ (id_ahead s) (payload_ahead s) (c.in-Err-line_of.ensures.none n)))

pub loop-lines-preserved : goal.loop-lines-preserved
loop-lines-preserved g c =
    let s = next_section c.in-Some-Ok.field-0-is c.in-Some-Ok.ensures.steps in
    let found = c.in-Ok-line_of.ensures.found in
    subst (λ z. HasListed (ahead c.in-Ok.sections) z (ahead c.next.new.self)) (sym c.in-Ok-push.ensures.items)
    (listed_step _ _ _ c.loop-lines.lines.items c.in-Ok-line_of.line _ c.loop-lines.invariant (line_decodes _ _ _ _ _ found.0 (id_ahead s) (payload_ahead s) found.1) found.2)
