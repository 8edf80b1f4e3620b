use Rattle.wasm_types.proofs.Common.{arith, sym, vec_len, ◌∙◌, eqb-true, eqb-false, fault_stays, prefix_listed, prefix_standard, final_list_decodes, final_list_empty, final_list_none}
use Rattle.wasm_types.proofs.Common.{final_list_none_after}
use Rattle.wasm_types.proofs.items.read_final_and.Goals.{else-is_empty-via-then-is_empty+else-not-is_standard, else-is_empty-via-else-is_empty}
use Rattle.wasm_types.proofs.items.read_final_and.Goals as goal

pub returns-in_err-supertypes-clause-none : goal.returns-in_err-supertypes-clause-none
returns-in_err-supertypes-clause-none g c = fault_stays c.from_residual.result _ c.from_residual.ensures.1 λ n. final_list_none _ (c.in_err-supertypes.ensures.none n)

pub returns-in_err-composite_type-clause-none : goal.returns-in_err-composite_type-clause-none
returns-in_err-composite_type-clause-none g c = fault_stays c.from_residual-in_err-composite_type.result _ c.from_residual-in_err-composite_type.ensures.1 λ n. final_list_none_after _ c.in_ok-supertypes.ensures.found (c.in_err-composite_type.ensures.none n)

pub returns-then-not-is_standard-clause-none : goal.returns-then-not-is_standard-clause-none
returns-then-not-is_standard-clause-none g c =
    λ e. final_list_empty _ c.in_ok-supertypes.supertypes.items c.is_standard.result c.in_ok-supertypes.ensures.found c.is_standard.ensures c.if-not-is_standard.true (omega (arith, eqb-true (vec_len c.in_ok-supertypes.supertypes) 0 (sym c.is_empty.ensures ∙ c.if-is_empty.true)))

pub returns-clause-found : goal.returns-clause-found
returns-clause-found g c =
    final_list_decodes _ c.in_ok-supertypes.ensures.found
    (elim c.else-is_empty.branch [
      | else-is_empty-via-then-is_empty+else-not-is_standard w ↦ prefix_standard _ _ _ w.is_standard.result w.is_standard.ensures w.if-not-is_standard.false
      | else-is_empty-via-else-is_empty w ↦ prefix_listed _ _ _ (λ z. eqb-false (vec_len c.in_ok-supertypes.supertypes) 0 (sym c.is_empty.ensures ∙ w.if-is_empty.false) (omega (arith, z)))
    ])
    c.in_ok-composite_type.ensures.found
