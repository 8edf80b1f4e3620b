use Rattle.wasm_tool.proofs.Common.{◌++◌, ◌∷◌, [], rules, IsEncodableSection, functions_encoding, encodable_count, encodable_functions}
use Rattle.wasm_tool.proofs.recipe.Recipe.read_elem.Goals as goal

pub returns-in_err-active : goal.returns-in_err-active
returns-in_err-active g c =
    let too_long = λ (encodable : IsEncodableSection (c.args.self.now.elements ++ functions_encoding c.in_ok-signed.field-0 c.in_ok-functions.functions.items ∷ [])).
    c.active.ensures.too_long (encodable_functions _ c.in_ok-signed.field-0 _ encodable) (encodable_count _ _ encodable) in
    search (rules, too_long)
