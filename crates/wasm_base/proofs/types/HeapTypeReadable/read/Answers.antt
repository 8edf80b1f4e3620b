use Rattle.wasm_base.proofs.Faults.{fault_stays}
use Rattle.wasm_base.proofs.DecodeTypes.{heap_none, heap_shared, heap_exact, heap_abstract, heap_index, heap_no_exact, heap_no_shared, heap_no_index}
use Rattle.wasm_base.proofs.Std.{arith}
use Rattle.wasm_base.proofs.types.HeapTypeReadable.read.Goals as goal

pub returns-in_err-tag-clause-none : goal.returns-in_err-tag-clause-none
returns-in_err-tag-clause-none g c = fault_stays c.from_residual.result _ c.from_residual.ensures.1 λ n. heap_none c.args.bytes.now (c.in_err-tag.ensures.none n)

pub returns-in_err-index-in-98-clause-none : goal.returns-in_err-index-in-98-clause-none
returns-in_err-index-in-98-clause-none g c = fault_stays c.from_residual-in_err-index-in-98.result _ c.from_residual-in_err-index-in-98.ensures.1 λ n. heap_no_exact c.args.bytes.now _ _ c.in_ok-tag.ensures.found c.in-98.is (c.in_err-index-in-98.ensures.none n)

pub returns-in_err-ty-in-101-clause-none : goal.returns-in_err-ty-in-101-clause-none
returns-in_err-ty-in-101-clause-none g c = fault_stays c.from_residual-in_err-ty-in-101.result _ c.from_residual-in_err-ty-in-101.ensures.1 λ n. heap_no_shared c.args.bytes.now _ _ c.in_ok-tag.ensures.found c.in-101.is (c.in_err-ty-in-101.ensures.none n)

pub returns-in_err-index-in-None-clause-none : goal.returns-in_err-index-in-None-clause-none
returns-in_err-index-in-None-clause-none g c = fault_stays c.from_residual-in_err-index-in-None.result _ c.from_residual-in_err-index-in-None.ensures.1 λ n. heap_no_index c.args.bytes.now _ _ c.in_ok-tag.ensures.found (omega arith) (omega arith) c.in-None.ensures (c.in_err-index-in-None.ensures.none n)

pub returns-in_ok-index-in-98-clause-found : goal.returns-in_ok-index-in-98-clause-found
returns-in_ok-index-in-98-clause-found g c = heap_exact c.args.bytes.now _ _ _ _ c.in_ok-tag.ensures.found c.in-98.is c.in_ok-index-in-98.ensures.found

pub returns-in-Some-clause-found : goal.returns-in-Some-clause-found
returns-in-Some-clause-found g c = heap_abstract c.args.bytes.now _ _ _ c.in_ok-tag.ensures.found c.in-Some.ensures

pub returns-in_ok-index-in-None-clause-found : goal.returns-in_ok-index-in-None-clause-found
returns-in_ok-index-in-None-clause-found g c = heap_index c.args.bytes.now _ _ c.in_ok-index-in-None.ensures.found

pub returns-in_ok-ty-in-101-clause-found : goal.returns-in_ok-ty-in-101-clause-found
returns-in_ok-ty-in-101-clause-found g c = search (heap_shared, c.in_ok-tag.ensures.found, c.in-101.is, c.in_ok-ty-in-101.ensures.found)
