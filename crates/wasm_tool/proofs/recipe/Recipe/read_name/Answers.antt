use Rattle.wasm_tool.proofs.Common.{◌++◌, ◌∷◌, [], rules, size_prefixed_encoding, subsection_encoding, AreEncodableNames, names_count, names_size_prefixed, names_name}
use Rattle.wasm_tool.proofs.recipe.Recipe.read_name.Goals as goal

pub returns-in_err-module : goal.returns-in_err-module
returns-in_err-module g c =
    let too_long = λ (encodable : AreEncodableNames (c.args.self.now.names ++ subsection_encoding 0 (size_prefixed_encoding c.rest-name.result.now) ∷ [])).
    c.module.ensures.too_long (names_size_prefixed _ _ encodable, names_name _ _ encodable) (names_count _ _ encodable) in
    search (rules, too_long)
