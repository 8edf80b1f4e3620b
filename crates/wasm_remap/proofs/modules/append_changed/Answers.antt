use Rattle.wasm_base.proofs.Words.{◌≡◌, subst, DecodesOneMore}
use Rattle.wasm_remap.proofs.modules.append_changed.Goals as goal

pub returns-clause-ok : goal.returns-clause-ok
returns-clause-ok g c =
    let old = c.args.module.now in
    let new = c.section.new.self in
    let payload = c.in_ok-payload.payload.items in
    let read = subst (λ p. DecodesOneMore (λ q. q ≡ p) c.args.section.now.section.id old new) c.deref.ensures.value (subst (λ i. DecodesOneMore (λ q. q ≡ c.deref.result.now) i old new) c.id.ensures c.in_ok-section.ensures.read) in
    (payload, c.in_ok-payload.ensures.ok, read)
