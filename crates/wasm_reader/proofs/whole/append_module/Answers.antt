use Rattle.wasm_reader.proofs.Common.{sym, ◌∙◌, ahead, no_header, stops_at, keeps_offsets, loses_at}
use Rattle.wasm_reader.proofs.whole.append_module.Goals as goal

pub returns-in-Err-clause-why : goal.returns-in-Err-clause-why
returns-in-Err-clause-why g c = λ n. (c.in-Err.ensures.none, no_header c.args.bytes.now c.in-Err.ensures.none)

pub returns-in-Err-append_sections-clause-why : goal.returns-in-Err-append_sections-clause-why
returns-in-Err-append_sections-clause-why g c = λ n. stops_at c.args.bytes.now (ahead c.in-Ok.sections) _ c.in-Ok.ensures.found (c.in-Err-append_sections.ensures.none n)

pub returns-in-Some-clause-why : goal.returns-in-Some-clause-why
returns-in-Some-clause-why g c =
    loses_at c.args.offsets c.args.bytes.now (ahead c.in-Ok.sections) c.args.sink.now.items _ _ c.in-Ok-append_sections.tally c.in-Ok.ensures.found c.in-Ok-begin_module.ensures.ok c.in-Ok-append_sections.ensures.ok _ (sym c.lost_at.ensures ∙ c.in-Some.is)

pub returns-in-None-clause-ok : goal.returns-in-None-clause-ok
returns-in-None-clause-ok g c =
    keeps_offsets c.args.offsets c.args.bytes.now (ahead c.in-Ok.sections) c.args.sink.now.items _ _ c.in-Ok-append_sections.tally c.in-Ok.ensures.found c.in-Ok-begin_module.ensures.ok c.in-Ok-append_sections.ensures.ok (sym c.lost_at.ensures ∙ c.in-None.is)

pub returns-in-Err-clause-header : goal.returns-in-Err-clause-header
returns-in-Err-clause-header g c = λ e n. c.in-Err.ensures.why.cause
