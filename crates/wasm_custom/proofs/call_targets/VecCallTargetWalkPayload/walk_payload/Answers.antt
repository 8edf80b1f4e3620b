use Rattle.wasm_custom.proofs.MetadataLaws.{target_begins}
use Rattle.wasm_custom.proofs.call_targets.VecCallTargetWalkPayload.walk_payload.Goals as goal

pub walk_to_end-requires : goal.walk_to_end-requires
walk_to_end-requires g c = record { begun = λ mode s x h. target_begins mode s x h }
