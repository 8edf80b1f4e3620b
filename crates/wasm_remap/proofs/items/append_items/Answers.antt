use Rattle.wasm_base.proofs.Words.{sym, ap, ◌∙◌}
use Rattle.wasm_reader.specs.Kinds.{contents_of, grammars_of}
use Rattle.wasm_remap.proofs.ContentLaws.{built_appends}
use Rattle.wasm_remap.proofs.items.append_items.Goals as goal

pub returns-in_ok-encode_items-clause-ok : goal.returns-in_ok-encode_items-clause-ok
returns-in_ok-encode_items-clause-ok g c =
    let both = ap grammars_of (sym c.kind.ensures) ∙ c.is_minimal_when_built.ensures c.if-is_minimal_when_built.true in
    built_appends (contents_of c.args.items.now) c.args.sink.now.items _ both c.in_ok-encode_items.ensures.ok
