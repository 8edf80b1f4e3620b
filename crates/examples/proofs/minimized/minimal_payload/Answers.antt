use Rattle.examples.proofs.Common.{on_ok}
use Rattle.wasm_base.proofs.Faults.{if_err_more}
use Rattle.examples.proofs.MinimizedLaws.{same_content}
use Rattle.examples.proofs.minimized.minimal_payload.Goals as goal

pub returns-clause-same : goal.returns-clause-same
returns-clause-same g c = on_ok c.minimize.result _ _ c.minimize.ensures.found λ h x d. same_content _ _ _ _ h c.requires x d

pub returns-clause-accepted : goal.returns-clause-accepted
returns-clause-accepted g c = if_err_more c.minimize.result (λ e rejects n x d. (rejects n).none x d) c.minimize.ensures.none
