use Rattle.wasm_types.proofs.Common.{fault_stays, supertypes_none, supertypes_none_after, supertypes_decodes}
use Rattle.wasm_types.proofs.items.read_supertypes_and.Goals as goal

pub returns-in_err-supertypes-clause-none : goal.returns-in_err-supertypes-clause-none
returns-in_err-supertypes-clause-none g c = fault_stays c.from_residual.result _ c.from_residual.ensures.1 λ n. supertypes_none (c.in_err-supertypes.ensures.none n)

pub returns-in_err-composite_type-clause-none : goal.returns-in_err-composite_type-clause-none
returns-in_err-composite_type-clause-none g c = fault_stays c.from_residual-in_err-composite_type.result _ c.from_residual-in_err-composite_type.ensures.1 λ n. supertypes_none_after c.in_ok-supertypes.ensures.found (c.in_err-composite_type.ensures.none n)

pub returns-clause-found : goal.returns-clause-found
returns-clause-found g c = supertypes_decodes c.in_ok-supertypes.ensures.found c.in_ok-composite_type.ensures.found
