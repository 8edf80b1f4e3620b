use Rattle.wasm_code.proofs.Common.{◌≡◌, ◌++◌, ◌∷◌, [], ap, sym, ◌∙◌, append_assoc, rules, optional_encoding, first_encoding, appends_whole, encodable_always}
use Rattle.wasm_code.proofs.const_expr.ConstExprEncode.encode.Goals as goal

pub returns-clause-appends : goal.returns-clause-appends
returns-clause-appends g c =
    let first = optional_encoding first_encoding c.self.inside.first in
    let bytes : c.deref.result.now ≡ c.self.inside.bytes.items = search rules in
    let encoding = sym (append_assoc first c.deref.result.now (0x0B ∷ [])) ∙ ap (λ z. (first ++ z) ++ 0x0B ∷ []) bytes ∙ ap (λ z. z ++ 0x0B ∷ []) c.self.view_is in
    appends_whole (encodable_always c.self.inside.first, tt, tt) encoding c.encode.ensures.appends
