use Rattle.wasm_base.proofs.Words.{sym, ◌∙◌, eqb-true}
use Rattle.wasm_remap.proofs.StreamLaws.{whole_remaps}
use Rattle.wasm_remap.proofs.bodies.append_bodies.Goals as goal

pub returns-then-is_empty-clause-found : goal.returns-then-is_empty-clause-found
returns-then-is_empty-clause-found g c m follows = whole_remaps c.args.bytes.now c.in_ok-rest.rest.now c.args.sink.now.items _ (c.in_ok-rest.ensures.found m follows) (eqb-true _ _ (sym c.is_empty.ensures ∙ c.if-is_empty.true))
