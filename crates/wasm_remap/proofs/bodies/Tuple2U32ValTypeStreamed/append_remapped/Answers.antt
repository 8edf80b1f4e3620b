use Rattle.wasm_base.proofs.Words.{subst}
use Rattle.wasm_base.specs.Numbers.{admitted}
use Rattle.wasm_base.specs.Types.{val_type}
use Rattle.wasm_base.proofs.TightTypes.{val_in}
use Rattle.wasm_remap.specs.Streamed.{AppendsForm}
use Rattle.wasm_remap.proofs.StreamLaws.{second_remaps}
use Rattle.wasm_remap.proofs.bodies.Tuple2U32ValTypeStreamed.append_remapped.Goals as goal

pub returns-clause-found : goal.returns-clause-found
returns-clause-found g c m follows =
    let ty = c.remap.new.self in
    let appends : AppendsForm val_type ty c.encode.new.sink.items c.encode_in.new.sink.items = record { encoding = _; appended = c.in_ok-encode_in.ensures.ok; encodes = λ h. (val_in admitted).minimal_in h.0 ty h.1 } in
    let mapped = subst (λ t. AppendsForm val_type t c.encode.new.sink.items c.encode_in.new.sink.items) (c.in_ok-remap.ensures.ok m follows) appends in
    second_remaps c.in_ok-count.count c.in_ok-count.ensures.found c.in_ok-encode.ensures.appends.ok (record { value = c.in_ok-ty.ty; decoded = c.in_ok-ty.ensures.found; appends = mapped })
