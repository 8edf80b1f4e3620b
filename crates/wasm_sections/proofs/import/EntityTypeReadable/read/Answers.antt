use Rattle.wasm_sections.proofs.Common.{fault_stays, entity_none, entity_no_function, entity_no_table, entity_no_memory, entity_no_global, entity_no_tag, entity_no_exact, entity_function}
use Rattle.wasm_sections.proofs.Common.{entity_table, entity_global, entity_tag, entity_exact, entity_memory}
use Rattle.wasm_sections.proofs.import.EntityTypeReadable.read.Goals as goal

pub returns-in_err-kind-clause-none : goal.returns-in_err-kind-clause-none
returns-in_err-kind-clause-none g c = fault_stays c.from_residual.result _ c.from_residual.ensures.1 λ n. entity_none c.args.bytes.now (c.in_err-kind.ensures.none n)

pub returns-in_err-index-in-0-clause-none : goal.returns-in_err-index-in-0-clause-none
returns-in_err-index-in-0-clause-none g c = fault_stays c.from_residual-in_err-index-in-0.result _ c.from_residual-in_err-index-in-0.ensures.1 λ n.
    entity_no_function c.args.bytes.now _ _ c.in_ok-kind.ensures.found c.in-0.is (c.in_err-index-in-0.ensures.none n)

pub returns-in_err-ty-in-1-clause-none : goal.returns-in_err-ty-in-1-clause-none
returns-in_err-ty-in-1-clause-none g c = fault_stays c.from_residual-in_err-ty-in-1.result _ c.from_residual-in_err-ty-in-1.ensures.1 λ n.
    entity_no_table c.args.bytes.now _ _ c.in_ok-kind.ensures.found c.in-1.is (c.in_err-ty-in-1.ensures.none n)

pub returns-in_err-ty-in-2-clause-none : goal.returns-in_err-ty-in-2-clause-none
returns-in_err-ty-in-2-clause-none g c = fault_stays c.from_residual-in_err-ty-in-2.result _ c.from_residual-in_err-ty-in-2.ensures.1 λ n.
    entity_no_memory c.args.bytes.now _ _ c.in_ok-kind.ensures.found c.in-2.is (c.in_err-ty-in-2.ensures.none n)

pub returns-in_err-ty-in-3-clause-none : goal.returns-in_err-ty-in-3-clause-none
returns-in_err-ty-in-3-clause-none g c = fault_stays c.from_residual-in_err-ty-in-3.result _ c.from_residual-in_err-ty-in-3.ensures.1 λ n.
    entity_no_global c.args.bytes.now _ _ c.in_ok-kind.ensures.found c.in-3.is (c.in_err-ty-in-3.ensures.none n)

pub returns-in_err-ty-in-4-clause-none : goal.returns-in_err-ty-in-4-clause-none
returns-in_err-ty-in-4-clause-none g c = fault_stays c.from_residual-in_err-ty-in-4.result _ c.from_residual-in_err-ty-in-4.ensures.1 λ n.
    entity_no_tag c.args.bytes.now _ _ c.in_ok-kind.ensures.found c.in-4.is (c.in_err-ty-in-4.ensures.none n)

pub returns-in_err-index-in-32-clause-none : goal.returns-in_err-index-in-32-clause-none
returns-in_err-index-in-32-clause-none g c = fault_stays c.from_residual-in_err-index-in-32.result _ c.from_residual-in_err-index-in-32.ensures.1 λ n.
    entity_no_exact c.args.bytes.now _ _ c.in_ok-kind.ensures.found c.in-32.is (c.in_err-index-in-32.ensures.none n)

pub returns-in_ok-index-in-0-clause-found : goal.returns-in_ok-index-in-0-clause-found
returns-in_ok-index-in-0-clause-found g c = entity_function c.args.bytes.now _ _ _ _ c.in_ok-kind.ensures.found c.in-0.is c.in_ok-index-in-0.ensures.found

pub returns-in_ok-ty-in-1-clause-found : goal.returns-in_ok-ty-in-1-clause-found
returns-in_ok-ty-in-1-clause-found g c = entity_table c.args.bytes.now _ _ _ _ c.in_ok-kind.ensures.found c.in-1.is c.in_ok-ty-in-1.ensures.found

pub returns-in_ok-ty-in-3-clause-found : goal.returns-in_ok-ty-in-3-clause-found
returns-in_ok-ty-in-3-clause-found g c = entity_global c.args.bytes.now _ _ _ _ c.in_ok-kind.ensures.found c.in-3.is c.in_ok-ty-in-3.ensures.found

pub returns-in_ok-ty-in-4-clause-found : goal.returns-in_ok-ty-in-4-clause-found
returns-in_ok-ty-in-4-clause-found g c = entity_tag c.args.bytes.now _ _ _ _ c.in_ok-kind.ensures.found c.in-4.is c.in_ok-ty-in-4.ensures.found

pub returns-in_ok-index-in-32-clause-found : goal.returns-in_ok-index-in-32-clause-found
returns-in_ok-index-in-32-clause-found g c = search (entity_exact, c.in_ok-kind.ensures.found, c.in-32.is, c.in_ok-index-in-32.ensures.found)

pub returns-in_ok-ty-in-2-clause-found : goal.returns-in_ok-ty-in-2-clause-found
returns-in_ok-ty-in-2-clause-found g c = search (entity_memory, c.in_ok-kind.ensures.found, c.in-2.is, c.in_ok-ty-in-2.ensures.found)
