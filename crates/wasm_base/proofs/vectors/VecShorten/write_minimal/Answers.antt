use Rattle.wasm_base.proofs.Std.{◌++◌, ap, subst, sym, map, ◌∙◌}
use Rattle.wasm_base.specs.{vec, unsigned_encoding, AppendsMinimal}
use Rattle.wasm_base.proofs.Outcomes.{on_ok}
use Rattle.wasm_base.proofs.MinimalEncodings.{vec_appended}
use Rattle.wasm_base.proofs.vectors.VecShorten.write_minimal.Goals as goal

pub returns-clause-ok : goal.returns-clause-ok
returns-clause-ok g c =
    let t = g.T.Layout in
    let items = c.deref.result.now in
    let old = c.args.sink.now.items in
    on_ok c.write_all.result _ _ c.write_all.ensures.ok (λ added.
    subst (λ xs. AppendsMinimal g.T.Shorten.grammars (vec t.format) (map t.view xs) old c.write_all.new.sink.items) c.deref.ensures.value
    (vec_appended t.format t.view items old c.encode.new.sink.items c.write_all.new.sink.items (c.in_ok-encode.ensures.appends.ok ∙ ap (λ n. old ++ unsigned_encoding n) (c.len.ensures ∙ sym c.deref.ensures.len)) added))
