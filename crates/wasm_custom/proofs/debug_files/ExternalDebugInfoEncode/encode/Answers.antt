use Rattle.wasm_custom.proofs.Common.{subst, on_ok, size_prefixed_encoding, IsEncodableNamed, debug_file_name, debug_file_back}
use Rattle.wasm_custom.proofs.debug_files.ExternalDebugInfoEncode.encode.Goals as goal

pub returns-clause-read : goal.returns-clause-read
returns-clause-read g c =
    on_ok c.encode_single.result _ _ c.encode_single.ensures.was_encodable λ encodable.
    debug_file_back c.args.self.now.0.now (subst (λ b. IsEncodableNamed debug_file_name (size_prefixed_encoding b)) c.as_bytes.ensures.value encodable)
