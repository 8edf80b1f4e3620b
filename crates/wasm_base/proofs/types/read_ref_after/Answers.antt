use Rattle.wasm_base.proofs.Faults.{fault_stays}
use Rattle.wasm_base.proofs.DecodeTypes.{ref_no_to, ref_no_nullable, ref_own_byte}
use Rattle.wasm_base.proofs.types.read_ref_after.Goals as goal

pub returns-in_err-heap_type-in-100-clause-none : goal.returns-in_err-heap_type-in-100-clause-none
returns-in_err-heap_type-in-100-clause-none g c = fault_stays c.from_residual.result _ c.from_residual.ensures.1 λ n. ref_no_to _ c.args.bytes.now c.args.tag c.in-100.is (c.in_err-heap_type-in-100.ensures.none n)

pub returns-in_err-heap_type-in-99-clause-none : goal.returns-in_err-heap_type-in-99-clause-none
returns-in_err-heap_type-in-99-clause-none g c =
    fault_stays c.from_residual-in_err-heap_type-in-99.result _ c.from_residual-in_err-heap_type-in-99.ensures.1 λ n. ref_no_nullable _ c.args.bytes.now c.args.tag c.in-99.is (c.in_err-heap_type-in-99.ensures.none n)

pub returns-else-has_long_form-clause-none : goal.returns-else-has_long_form-clause-none
returns-else-has_long_form-clause-none g c = λ e. ref_own_byte _ c.args.bytes.now _ c.args.tag _ c.in-99.is c.in_ok-heap_type-in-99.ensures.found (c.has_long_form.ensures.no c.if-has_long_form.false)
