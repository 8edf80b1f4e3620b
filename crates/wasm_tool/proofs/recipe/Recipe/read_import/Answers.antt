use Rattle.wasm_tool.proofs.Common.{◌≡◌, ◌++◌, ◌∷◌, List, ℕ, ap, subst, ◌∙◌, size_prefixed_encoding, entity_encoding, EntityType, adds, counted_words, entity_of, from_words, import_entry, Version}
use Rattle.wasm_tool.proofs.Common.{follows_refused, encodable_count, encodable_import}
use Rattle.std.specs.Prelude.{Ok, Err}
use Rattle.wasm_tool.proofs.recipe.Recipe.read_import.Goals as goal

-- The entry of a line of these words.
imported : (v v1 v2 v3 : Version) (r r1 r2 r3 from name kind : List ℕ) (ty : EntityType) → v1 ≡ v → v2 ≡ v1 → v3 ≡ v2
    → counted_words v r ≡ from ∷ counted_words v r1 → counted_words v1 r1 ≡ name ∷ counted_words v1 r2 → counted_words v2 r2 ≡ kind ∷ counted_words v2 r3 → entity_of v3 kind (counted_words v3 r3) ≡ Ok ty
    → import_entry v (counted_words v r) ≡ adds 2 (size_prefixed_encoding from ++ (size_prefixed_encoding name ++ entity_encoding ty))
imported v v1 v2 v3 r r1 r2 r3 from name kind ty e1 e2 e3 first second third fourth =
    let two = subst (λ u. counted_words u r1 ≡ name ∷ counted_words u r2) e1 second in
    let three = subst (λ u. counted_words u r2 ≡ kind ∷ counted_words u r3) (e2 ∙ e1) third in
    let four = subst (λ u. entity_of u kind (counted_words u r3) ≡ Ok ty) (e3 ∙ e2 ∙ e1) fourth in
    ap (import_entry v) (first ∙ ap (λ ws. from ∷ ws) (two ∙ ap (λ ws. name ∷ ws) three))
    ∙ ap (λ said. from_words said (λ entity. adds 2 (size_prefixed_encoding from ++ (size_prefixed_encoding name ++ entity_encoding entity)))) four

pub returns-in_err-import : goal.returns-in_err-import
returns-in_err-import g c =
    let said = imported _ _ _ _ _ _ _ _ _ _ _ c.in_ok-ty.ty c.in_ok-from.ensures.version c.in_ok-name.ensures.version c.in_ok-kind.ensures.version c.in_ok-from.ensures.word c.in_ok-name.ensures.word c.in_ok-kind.ensures.word c.in_ok-ty.ensures in
    follows_refused _ _ c.args.self.now _ c.in_err-import.field-0.0 c.from_residual-in_err-import.result said
    (λ e encodable. c.in_err-import.ensures.too_long (encodable_import _ _ _ _ encodable.imports) (encodable_count _ _ encodable.imports) (ap Err e)) c.from_residual-in_err-import.ensures.1
