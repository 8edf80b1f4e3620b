use Rattle.wasm_base.proofs.Words.{admitted}
use Rattle.wasm_reader.specs.{ShortensIn}
use Rattle.wasm_reader.proofs.Common.{subst, section_of, whole_size_prefixed}
use Rattle.wasm_reader.proofs.whole.append_size_prefixed.Goals as goal

pub returns-in-Ok-clause-ok : goal.returns-in-Ok-clause-ok
returns-in-Ok-clause-ok g c =
    let s = section_of c.args.section.now in
    whole_size_prefixed _ s c.in-Ok.field-0 c.args.sink.now.items c.shorten_in.new.sink.items c.requires
    (subst (λ k. ShortensIn admitted k s.sized c.in-Ok.field-0 c.args.sink.now.items c.shorten_in.new.sink.items) c.kind.ensures c.in-Ok.ensures.ok)
