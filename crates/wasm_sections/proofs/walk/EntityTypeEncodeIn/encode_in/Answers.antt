use Rattle.wasm_base.proofs.Words.{◌≡◌, [], ◌∷◌, ◌++◌, sym, subst, on_ok}
use Rattle.wasm_base.proofs.MinimalEncodings.{appended_then}
use Rattle.wasm_sections.specs.{entity_encoding_in, table_encoding_in, global_encoding_in}
use Rattle.wasm_sections.proofs.walk.EntityTypeEncodeIn.encode_in.Goals as goal

pub returns-in_ok-encode-in-Table-clause-ok : goal.returns-in_ok-encode-in-Table-clause-ok
returns-in_ok-encode-in-Table-clause-ok g c = on_ok c.encode_in.result _ _ c.encode_in.ensures.ok λ e.
    subst (λ x. c.encode_in.new.sink.items ≡ c.args.sink.now.items ++ entity_encoding_in g.G.Grammar.grammar x) (sym c.in-Table.is)
    (appended_then (0x01 ∷ []) (table_encoding_in g.G.Grammar.grammar c.in-Table.ty) c.args.sink.now.items c.encode-in-Table.new.sink.items c.encode_in.new.sink.items c.in_ok-encode-in-Table.ensures.appends.ok e)

pub returns-in_ok-encode-in-Global-clause-ok : goal.returns-in_ok-encode-in-Global-clause-ok
returns-in_ok-encode-in-Global-clause-ok g c = on_ok c.encode_in-in-Global.result _ _ c.encode_in-in-Global.ensures.ok λ e.
    subst (λ x. c.encode_in-in-Global.new.sink.items ≡ c.args.sink.now.items ++ entity_encoding_in g.G.Grammar.grammar x) (sym c.in-Global.is)
    (appended_then (0x03 ∷ []) (global_encoding_in g.G.Grammar.grammar c.in-Global.ty) c.args.sink.now.items c.encode-in-Global.new.sink.items c.encode_in-in-Global.new.sink.items c.in_ok-encode-in-Global.ensures.appends.ok e)
