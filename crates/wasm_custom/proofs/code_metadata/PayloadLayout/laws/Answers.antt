use Rattle.wasm_custom.proofs.MetadataLaws.{payload_unambiguous}
use Rattle.wasm_custom.proofs.code_metadata.PayloadLayout.laws.Goals as goal

pub returns : goal.returns
returns g c = payload_unambiguous c.payload_laws.ensures
