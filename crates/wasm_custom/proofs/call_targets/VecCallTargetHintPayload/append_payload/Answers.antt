use Rattle.wasm_base.proofs.Words.{ap, subst, ◌∙◌, flat_map}
use Rattle.wasm_base.specs.Calls.{Appends}
use Rattle.wasm_custom.specs.{target_encoding, target_view}
use Rattle.wasm_custom.proofs.MetadataLaws.{views_encoded}
use Rattle.wasm_custom.proofs.call_targets.VecCallTargetHintPayload.append_payload.Goals as goal

pub returns : goal.returns
returns g c =
    let same = ap (λ ts. flat_map (λ t. target_encoding (target_view t)) ts) c.as_slice.ensures.value ∙ views_encoded target_encoding target_view c.args.self.now.items in
    subst (λ s. Appends s (Unit {0}) c.args.sink.now c.append_targets.new.sink c.append_targets.result) same c.append_targets.ensures
