use Rattle.wasm_base.proofs.Words.{refl, sym, subst, inr}
use Rattle.wasm_reader.proofs.Words.{HasOutline}
use Rattle.wasm_c.proofs.Named.{all_named}
use Rattle.wasm_c.proofs.outlining.dz_outline.Goals as goal

pub put-requires : goal.put-requires
put-requires c = all_named c.args.bytes.now c.deref.result.now (subst (λ z. HasOutline c.args.bytes.now z) (sym c.deref.ensures.value) c.in-Ok.ensures.found)

pub returns-in-Ok : goal.returns-in-Ok
returns-in-Ok c =
    let has = subst (λ z. HasOutline c.args.bytes.now z) (sym c.deref.ensures.value) c.in-Ok.ensures.found in
    inr (record { lines = c.deref.result.now; has = has; named = all_named c.args.bytes.now c.deref.result.now has; gives = c.put.ensures; no_place = refl; no_cause = refl })
