use Rattle.wasm_base.proofs.Words.{byte, vec, fault_stays, then_rejects_first, then_rejects_second}
use Rattle.wasm_base.proofs.WalkLaws.{pair_walks}
use Rattle.wasm_code.proofs.Words.{expression, expression_unambiguous}
use Rattle.wasm_sections.proofs.walk.walk_placed.Goals as goal

pub returns-in_err-after-clause-none : goal.returns-in_err-after-clause-none
returns-in_err-after-clause-none g c = fault_stays c.from_residual.result _ c.from_residual.ensures.1 λ n. then_rejects_first (c.in_err-after.ensures.none n)

pub returns-in_err-rest-clause-none : goal.returns-in_err-rest-clause-none
returns-in_err-rest-clause-none g c = fault_stays c.from_residual-in_err-rest.result _ c.from_residual-in_err-rest.ensures.1 λ n. then_rejects_second expression_unambiguous c.in_ok-after.ensures.found.decoded (c.in_err-rest.ensures.none n)

pub returns-clause-found : goal.returns-clause-found
returns-clause-found g c = pair_walks expression (vec byte) c.in_ok-after.ensures.found c.in_ok-rest.ensures.found
