use Rattle.wasm_types.specs.{after_composite}
use Rattle.wasm_types.proofs.Common.{fault_stays, if_ok_more, if_err_more, composite_none, composite_none_after}
use Rattle.wasm_base.proofs.WalkLaws.{byte_then}
use Rattle.wasm_types.proofs.walk.walk_composite.Goals as goal

pub returns-in_err-tag-clause-none : goal.returns-in_err-tag-clause-none
returns-in_err-tag-clause-none g c = fault_stays c.from_residual.result _ c.from_residual.ensures.1 λ n. composite_none c.args.bytes.now (c.in_err-tag.ensures.none n)

pub returns-clause-found : goal.returns-clause-found
returns-clause-found g c = if_ok_more c.walk_composite_after.result (λ rest h. byte_then c.in_ok-tag.ensures.found c.in_ok-put.ensures.ok after_composite h) c.walk_composite_after.ensures.found

pub returns-clause-none : goal.returns-clause-none
returns-clause-none g c = if_err_more c.walk_composite_after.result (λ e none n. composite_none_after c.in_ok-tag.ensures.found (none n)) c.walk_composite_after.ensures.none
