use Rattle.wasm_custom.proofs.Common.{on_ok, build_id_back}
use Rattle.wasm_custom.proofs.debug_files.BuildIdEncode.encode.Goals as goal

pub returns-clause-read : goal.returns-clause-read
returns-clause-read g c = on_ok c.encode_single.result _ _ c.encode_single.ensures.was_encodable λ encodable. build_id_back c.args.self.now.0.now encodable
