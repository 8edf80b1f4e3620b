use Rattle.wasm_reader.proofs.Common.{sym, ap, ◌++◌, ◌∙◌, section_of, contains_offsets, gains, stays_in, is_change_encoding, after_id}
use Rattle.wasm_reader.proofs.whole.append_section.Goals as goal

pub returns-in-Ok-clause-ok : goal.returns-in-Ok-clause-ok
returns-in-Ok-clause-ok g c =
    let s = section_of c.args.section.now in
    let encoding = c.in-Ok.ensures.ok in
    let gained = encoding.2 ∙ ap (λ z. z ++ encoding.0) c.in_ok-push.ensures.items in
    gains c.args.offsets s c.in-Ok.how _ encoding.0 c.args.sink.now.items _ encoding.1
    (stays_in c.args.offsets (contains_offsets s.name) (sym c.is_left_out.ensures ∙ c.if-is_left_out.false))
    (is_change_encoding _ s _ encoding.0 (after_id c.args.sink.now.items encoding.0 c.deref.result.now s.id c.len-start.result (search (c.len-start.ensures, c.args.sink.now.ok)) (c.deref.ensures.value ∙ gained)) c.is_changed-is_changed.ensures)
    gained
