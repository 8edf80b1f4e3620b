use Rattle.wasm_base.proofs.Words.{◌++◌, ◌∙◌, ap}
use Rattle.wasm_reader.proofs.Causes.{cause_stays}
use Rattle.read_back.proofs.ObjectLaws.{has_payload, payload_decodes, payload_is}
use Rattle.read_back.proofs.objects.read_objects.Goals as goal

pub returns-in_err-payload-clause-memory : goal.returns-in_err-payload-clause-memory
returns-in_err-payload-clause-memory g c =
    let gained = c.in_ok-write_objects.ensures in
    cause_stays c.from_residual-in_err-payload.result _ c.from_residual-in_err-payload.ensures.1 λ n. has_payload (c.deref.ensures.value ∙ gained.added ∙ ap (λ t. t ++ gained.encoding) c.requires) gained.unique (c.in_err-payload.ensures.none n)

pub returns-in_err-items-clause-memory : goal.returns-in_err-items-clause-memory
returns-in_err-items-clause-memory g c =
    let gained = c.in_ok-write_objects.ensures in
    cause_stays c.from_residual-in_err-items.result _ c.from_residual-in_err-items.ensures.1 λ n.
    payload_decodes (c.deref.ensures.value ∙ gained.added ∙ ap (λ t. t ++ gained.encoding) c.requires) gained.unique c.in_ok-payload.ensures.found c.object_linking.ensures.encoded (c.in_err-items.ensures.none n)

pub returns-clause-read : goal.returns-clause-read
returns-clause-read g c =
    let gained = c.in_ok-write_objects.ensures in
    payload_is (c.deref.ensures.value ∙ gained.added ∙ ap (λ t. t ++ gained.encoding) c.requires) gained.unique c.in_ok-payload.ensures.found c.object_linking.ensures.decoded c.in_ok-items.ensures.found
