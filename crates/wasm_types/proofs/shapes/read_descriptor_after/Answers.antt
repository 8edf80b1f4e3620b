use Rattle.wasm_types.proofs.Common.{refl, fault_stays, index_none, index_none_after, no_index_none, index_decodes, after_shape}
use Rattle.wasm_types.proofs.shapes.read_descriptor_after.Goals as goal

pub returns-in_err-index-clause-none : goal.returns-in_err-index-clause-none
returns-in_err-index-clause-none g c = fault_stays c.from_residual.result _ c.from_residual.ensures.1 λ n. index_none 0x4D after_shape refl c.if-tag-eq77.true (c.in_err-index.ensures.none n)

pub returns-in_err-inner-clause-none : goal.returns-in_err-inner-clause-none
returns-in_err-inner-clause-none g c = fault_stays c.from_residual-in_err-inner.result _ c.from_residual-in_err-inner.ensures.1 λ n. index_none_after 0x4D after_shape refl c.if-tag-eq77.true c.in_ok-index.ensures.found (c.in_err-inner.ensures.none n)

pub returns-in_err-inner-2-clause-none : goal.returns-in_err-inner-2-clause-none
returns-in_err-inner-2-clause-none g c = fault_stays c.from_residual-in_err-inner-2.result _ c.from_residual-in_err-inner-2.ensures.1 λ n. no_index_none 0x4D after_shape refl c.if-tag-eq77.false (c.in_err-inner-2.ensures.none n)

pub returns-in_ok-inner-clause-found : goal.returns-in_ok-inner-clause-found
returns-in_ok-inner-clause-found g c = index_decodes 0x4D after_shape refl c.if-tag-eq77.true c.in_ok-index.ensures.found c.in_ok-inner.ensures.found
