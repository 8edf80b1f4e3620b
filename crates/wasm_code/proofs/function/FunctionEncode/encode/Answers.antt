use Rattle.wasm_code.proofs.Common.{subst, ◌∙◌, HasEncodableSize, on_ok, body_decodes}
use Rattle.wasm_code.proofs.function.FunctionEncode.encode.Goals as goal

pub returns-clause-read : goal.returns-clause-read
returns-clause-read g c =
    on_ok c.encode_size_prefixed.result _ _ c.encode_size_prefixed.ensures.appends.was_encodable (λ encodable. body_decodes c.args.self.now (subst HasEncodableSize (c.deref.ensures.value ∙ c.self.view_is) encodable))
