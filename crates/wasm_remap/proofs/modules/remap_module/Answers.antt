use Rattle.wasm_base.proofs.Words.{refl}
use Rattle.wasm_remap.specs.Sections.{RemapsModule}
use Rattle.wasm_remap.specs.Errors.{ExplainsSection}
use Rattle.wasm_remap.proofs.ErrorLaws.{explains_each, if_err_more}
use Rattle.wasm_remap.proofs.FirstLaws.{if_ok_more}
use Rattle.wasm_remap.proofs.ModuleLaws.{changes_each}
use Rattle.wasm_remap.proofs.modules.remap_module.Goals as goal

pub returns-clause-ok : goal.returns-clause-ok
returns-clause-ok g c = if_ok_more c.change_module.result (λ new h. changes_each (λ s payload k. k (g.M.Remap.mapped c.args.indices.now) (λ _ _ _. refl)) h) c.change_module.ensures.ok

pub returns-clause-why : goal.returns-clause-why
returns-clause-why g c =
    let mapped = g.M.Remap.mapped c.args.indices.now in
    if_err_more c.change_module.result (λ e h. explains_each (ExplainsSection mapped (g.M.Remap.rejects c.args.indices.now)) c.args.offsets c.args.bytes.now (λ s payload k. k mapped (λ _ _ _. refl)) e h) c.change_module.ensures.why

pub returns-clause-every : goal.returns-clause-every
returns-clause-every g c = if_ok_more c.change_module.result (λ new h m follows. changes_each (λ s payload k. k m follows) h) c.change_module.ensures.ok
