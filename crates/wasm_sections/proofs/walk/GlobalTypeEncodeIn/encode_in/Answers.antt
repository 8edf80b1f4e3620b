use Rattle.wasm_base.proofs.Words.{[], ◌∷◌, ◌++◌, ◌∙◌, ap, on_ok}
use Rattle.wasm_base.proofs.MinimalEncodings.{appended_then}
use Rattle.wasm_base.specs.Types.{val_encoding_in}
use Rattle.wasm_sections.specs.{global_code, global_flags}
use Rattle.wasm_sections.proofs.walk.GlobalTypeEncodeIn.encode_in.Goals as goal

pub returns-clause-ok : goal.returns-clause-ok
returns-clause-ok g c = on_ok c.encode.result _ _ c.encode.ensures.appends.ok λ e.
    appended_then (val_encoding_in g.G.Grammar.grammar c.args.self.now.val_type) (global_code (global_flags c.args.self.now) ∷ []) c.args.sink.now.items c.encode_in.new.sink.items c.encode.new.sink.items c.in_ok-encode_in.ensures.ok (e ∙ ap (λ b. c.encode_in.new.sink.items ++ b ∷ []) c.flags.ensures)
