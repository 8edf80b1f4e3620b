use Rattle.wasm_tool.proofs.Common.{◌++◌, ◌∷◌, [], rules, IsEncodableSection, active_encoding, encodable_count, encodable_segment}
use Rattle.wasm_tool.proofs.recipe.Recipe.read_data.Goals as goal

pub returns-in_err-add_data : goal.returns-in_err-add_data
returns-in_err-add_data g c =
    let too_long = λ (encodable : IsEncodableSection (c.args.self.now.segments ++ active_encoding 0 c.in_ok-offset.offset c.in_ok-bytes.bytes.items ∷ [])). c.add_data.ensures.too_long (encodable_segment _ _ _ encodable) (encodable_count _ _ encodable) in
    search (rules, too_long)
