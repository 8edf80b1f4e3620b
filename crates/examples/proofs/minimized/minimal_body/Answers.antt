use Rattle.examples.proofs.Common.{on_ok}
use Rattle.wasm_base.proofs.Faults.{if_err_more}
use Rattle.examples.proofs.MinimizedLaws.{of_body}
use Rattle.examples.proofs.minimized.minimal_body.Goals as goal

pub returns-clause-same : goal.returns-clause-same
returns-clause-same g c = on_ok c.shorten_body.result _ _ c.shorten_body.ensures.found λ h x encoding b e. of_body h x encoding b e

pub returns-clause-accepted : goal.returns-clause-accepted
returns-clause-accepted g c = if_err_more c.shorten_body.result (λ e rejects n x b. (rejects n).none x b) c.shorten_body.ensures.none
