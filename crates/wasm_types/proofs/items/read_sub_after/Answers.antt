use Rattle.wasm_types.proofs.Common.{arith, fault_stays, open_none, final_none, alone_none}
use Rattle.wasm_types.proofs.items.read_sub_after.Goals as goal

pub returns-in_err-supertypes-in-80-clause-none : goal.returns-in_err-supertypes-in-80-clause-none
returns-in_err-supertypes-in-80-clause-none g c = fault_stays c.from_residual.result _ c.from_residual.ensures.1 λ n. open_none _ c.in-80.is (c.in_err-supertypes-in-80.ensures.none n)

pub returns-in_err-supertypes-in-79-clause-none : goal.returns-in_err-supertypes-in-79-clause-none
returns-in_err-supertypes-in-79-clause-none g c = fault_stays c.from_residual-in_err-supertypes-in-79.result _ c.from_residual-in_err-supertypes-in-79.ensures.1 λ n. final_none _ c.in-79.is (c.in_err-supertypes-in-79.ensures.none n)

pub returns-in_err-composite_type-in_default-clause-none : goal.returns-in_err-composite_type-in_default-clause-none
returns-in_err-composite_type-in_default-clause-none g c = fault_stays c.from_residual-in_err-composite_type-in_default.result _ c.from_residual-in_err-composite_type-in_default.ensures.1 λ n. alone_none _ (omega arith) (omega arith) (c.in_err-composite_type-in_default.ensures.none n)
