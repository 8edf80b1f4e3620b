use Rattle.wasm_base.proofs.EffectLaws.{skipped_vector}
use Rattle.wasm_base.proofs.walk.skip_many.Goals as goal

pub returns-clause-found : goal.returns-clause-found
returns-clause-found g c = skipped_vector _ _ g.T.Layout.format c.args.bytes.now _ _ (λ t. t.0) (λ t. t.1.now) c.walk_many.result c.walk_many.ensures.found
