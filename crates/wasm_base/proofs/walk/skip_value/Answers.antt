use Rattle.wasm_base.proofs.EffectLaws.{skipped_value}
use Rattle.wasm_base.proofs.walk.skip_value.Goals as goal

pub returns-clause-found : goal.returns-clause-found
returns-clause-found g c = skipped_value _ _ g.T.Layout.format c.args.bytes.now _ _ (λ t. t.now) c.walk.result c.walk.ensures.found
