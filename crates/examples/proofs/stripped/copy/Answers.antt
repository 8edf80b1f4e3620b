use Rattle.wasm_base.proofs.Words.{◌≡◌, subst, DecodesOneMore}
use Rattle.examples.proofs.stripped.copy.Goals as goal

pub returns-in-Ok-clause-ok : goal.returns-in-Ok-clause-ok
returns-in-Ok-clause-ok g c =
    let old = c.args.module.now in
    let new = c.section.new.self in
    subst (λ p. DecodesOneMore (λ q. q ≡ p) c.args.section.now.section.id old new) c.payload.ensures.value (subst (λ i. DecodesOneMore (λ q. q ≡ c.payload.result.now) i old new) c.id.ensures c.in-Ok.ensures.read)
