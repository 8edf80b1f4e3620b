use Rattle.wasm_base.proofs.WalkLaws.{pair_walks}
use Rattle.wasm_base.proofs.Words.{u32, vec}
use Rattle.wasm_types.specs.{composite_type}
use Rattle.wasm_types.proofs.Common.{fault_stays, if_ok_more, if_err_more, supertypes_none, supertypes_none_after}
use Rattle.wasm_types.proofs.walk.walk_supertypes_and.Goals as goal

pub returns-in_err-rest-clause-none : goal.returns-in_err-rest-clause-none
returns-in_err-rest-clause-none g c = fault_stays c.from_residual.result _ c.from_residual.ensures.1 λ n. supertypes_none (c.in_err-rest.ensures.none n)

pub returns-clause-found : goal.returns-clause-found
returns-clause-found g c = if_ok_more c.walk_composite.result (λ rest h. pair_walks (vec u32) composite_type c.in_ok-rest.ensures.found h) c.walk_composite.ensures.found

pub returns-clause-none : goal.returns-clause-none
returns-clause-none g c = if_err_more c.walk_composite.result (λ e none n. supertypes_none_after c.in_ok-rest.ensures.found.decoded (none n)) c.walk_composite.ensures.none
