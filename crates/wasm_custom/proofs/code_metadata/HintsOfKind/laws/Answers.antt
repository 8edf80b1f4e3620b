use Rattle.wasm_custom.proofs.MetadataLaws.{hinted_laws}
use Rattle.wasm_custom.proofs.code_metadata.HintsOfKind.laws.Goals as goal

pub returns : goal.returns
returns g c = hinted_laws c.payload_laws.ensures
