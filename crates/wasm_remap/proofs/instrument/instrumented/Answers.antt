use Rattle.wasm_base.proofs.Words.{take, drop, take-append-drop, ap, ap₂, sym, subst, ◌∙◌, ◌++◌, ◌≡◌, ◌≤◌, length, Ok, arith, ◌==◌}
use Rattle.wasm_code.specs.Words.{ahead}
use Rattle.wasm_remap.proofs.InstrumentedLaws.{ended, failed, given, last_at, own_split, woven_done, woven_decodes, woven_start, woven_step}
use Rattle.wasm_remap.specs.Errors.{ExplainsBody}
use Rattle.wasm_remap.proofs.ErrorLaws.{read_explained}
use Rattle.wasm_remap.proofs.instrument.instrumented.Goals as goal

pub loop-new-init : goal.loop-new-init
loop-new-init g c =
    let read = c.in_ok-_runs.ensures in
    let bytes = c.args.body.now.bytes in
    let offset = c.in_ok-_runs.instructions.offset in
    let locals = take offset bytes in
    let split = sym (ap (λ z. locals ++ z) (ap (drop offset) read.same) ∙ take-append-drop offset bytes) in
    let is = c.in_ok-new.ensures.items ∙ ap₂ take c.offset.ensures c.bytes-bytes.ensures in
    (λ x h. woven_start _ _ x bytes locals _ _ c.in_ok-_runs._runs.items h read.found split is, read.same, read.inside)

pub returns-in-Ok-None-clause-ok : goal.returns-in-Ok-None-clause-ok
returns-in-Ok-None-clause-ok g c = λ x h. woven_done (c.loop-new.invariant.0 x h) (ended c.loop-new.instructions c.next.new.self (c.in-Ok-None.is ∙ ap Ok c.in-Ok-None.field-0-is) c.next.ensures)

pub loop-new-preserved : goal.loop-new-preserved
loop-new-preserved g c =
    let it = c.in-Ok-Some.decoded in
    let gives = given (c.in-Ok-Some.is ∙ ap Ok c.in-Ok-Some.field-0-is) c.next.ensures in
    let same = gives.same ∙ c.loop-new.invariant.1 in
    let within : c.next.new.self.offset ≤ length c.args.body.now.bytes = omega (arith, gives.within, ap length same) in
    let split = own_split c.args.body.now.bytes c.bytes-bytes.result.now c.offset-end.result gives c.loop-new.invariant.1 c.bytes-bytes.ensures c.offset-end.ensures in
    let last = ap₂ (λ x y. x == length y) c.offset-end.ensures (c.bytes-bytes.ensures ∙ sym same) ∙ last_at c.next.new.self.offset c.next.new.self.bytes gives.within in
    (λ x h. woven_step it.op it.operands _ _ c.in-Some.next (c.loop-new.invariant.0 x h) gives.found split last c.in-Some.ensures.1 c.in_ok-append_around.ensures, same, within)

pub returns-in-Err-clause-why : goal.returns-in-Err-clause-why
returns-in-Err-clause-why g c =
    let why = ExplainsBody c.args.body.now.bytes in
    let fails = failed c.loop-new.instructions c.next.new.self c.in-Err.is c.next.ensures in
    subst why (sym c.into.ensures) (read_explained why c.locate.result tt (λ n. record { none = λ x h. woven_decodes (c.loop-new.invariant.0 x h) fails.1 (fails.0.none (λ m. n (c.locate.ensures.cause ∙ m))) }))
