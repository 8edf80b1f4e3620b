use Rattle.wasm_custom.proofs.MetadataLaws.{hinted_layout}
use Rattle.wasm_custom.proofs.code_metadata.HintsOfCustomKind.layout_laws.Goals as goal

pub returns : goal.returns
returns g c = hinted_layout c.payload_laws.ensures
