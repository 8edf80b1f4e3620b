use Rattle.wasm_base.proofs.Words.{◌∷◌, ◌++◌, ◌∙◌, ap, on_ok, unsigned_encoding, optional_encoding}
use Rattle.wasm_base.proofs.MinimalEncodings.{appended_then}
use Rattle.wasm_base.specs.Types.{ref_encoding_in}
use Rattle.wasm_sections.specs.{flags_code, table_flags}
use Rattle.wasm_sections.proofs.walk.TableTypeEncodeIn.encode_in.Goals as goal

pub returns-clause-ok : goal.returns-clause-ok
returns-clause-ok g c =
    let numbers = unsigned_encoding c.args.self.now.minimum ++ optional_encoding unsigned_encoding c.args.self.now.maximum in
    on_ok c.encode.result _ _ c.encode.ensures.appends.ok λ e.
    appended_then (ref_encoding_in g.G.Grammar.grammar c.args.self.now.element_type) (flags_code (table_flags c.args.self.now) ∷ numbers) c.args.sink.now.items c.encode_in.new.sink.items c.encode.new.sink.items c.in_ok-encode_in.ensures.ok (e ∙ ap (λ b. c.encode_in.new.sink.items ++ b ∷ numbers) c.flags.ensures)
