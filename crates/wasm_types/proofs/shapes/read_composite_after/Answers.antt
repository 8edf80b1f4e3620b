use Rattle.wasm_types.proofs.Common.{fault_stays, shared_none, shared_none_after, unshared_none, shared_decodes, unshared_decodes}
use Rattle.wasm_types.proofs.shapes.read_composite_after.Goals as goal

pub returns-in_err-tag-clause-none : goal.returns-in_err-tag-clause-none
returns-in_err-tag-clause-none g c = fault_stays c.from_residual.result _ c.from_residual.ensures.1 λ n. shared_none c.if-tag-eq101.true (c.in_err-tag.ensures.none n)

pub returns-in_err-describes-clause-none : goal.returns-in_err-describes-clause-none
returns-in_err-describes-clause-none g c = fault_stays c.from_residual-in_err-describes.result _ c.from_residual-in_err-describes.ensures.1 λ n. shared_none_after c.if-tag-eq101.true c.in_ok-tag.ensures.found (c.in_err-describes.ensures.none n)

pub returns-in_err-describes-2-clause-none : goal.returns-in_err-describes-2-clause-none
returns-in_err-describes-2-clause-none g c = fault_stays c.from_residual-in_err-describes-2.result _ c.from_residual-in_err-describes-2.ensures.1 λ n. unshared_none c.if-tag-eq101.false (c.in_err-describes-2.ensures.none n)

pub returns-in_ok-describes-clause-found : goal.returns-in_ok-describes-clause-found
returns-in_ok-describes-clause-found g c = shared_decodes c.if-tag-eq101.true c.in_ok-tag.ensures.found c.in_ok-describes.ensures.found

pub returns-in_ok-describes-2-clause-found : goal.returns-in_ok-describes-2-clause-found
returns-in_ok-describes-2-clause-found g c = unshared_decodes c.if-tag-eq101.false c.in_ok-describes-2.ensures.found
