use Rattle.wasm_custom.proofs.Common.{on_ok}
use Rattle.wasm_custom.proofs.MetadataLaws.{hinted_appended}
use Rattle.wasm_custom.proofs.code_metadata.CodeHintShorten.write_minimal.Goals as goal

pub returns-clause-ok : goal.returns-clause-ok
returns-clause-ok g c = on_ok c.encode.result _ _ c.encode.ensures.appends.ok λ e. hinted_appended c.payload_laws.ensures c.args.self.now.offset (g.T.HintPayload.view c.args.self.now.value) _ _ e
