use Rattle.wasm_custom.proofs.Common.{refl}
use Rattle.wasm_custom.proofs.MetadataLaws.{target_begins}
use Rattle.wasm_custom.proofs.call_targets.VecCallTargetReadPayload.read_payload.Goals as goal

pub read_to_end-requires : goal.read_to_end-requires
read_to_end-requires g c = λ l. ((refl, tt), λ mode s x h. target_begins mode s x h)
