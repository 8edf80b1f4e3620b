use Rattle.wasm_custom.proofs.MetadataLaws.{hinted_unambiguous}
use Rattle.wasm_custom.proofs.code_metadata.CodeHintLayout.laws.Goals as goal

pub returns : goal.returns
returns g c = hinted_unambiguous c.payload_laws.ensures
