use Rattle.wasm_types.proofs.Common.{fault_stays, func_none, array_none, structure_none, cont_none}
use Rattle.wasm_types.proofs.shapes.read_shape_after.Goals as goal

pub returns-in_err-params-in-96-clause-none : goal.returns-in_err-params-in-96-clause-none
returns-in_err-params-in-96-clause-none g c = fault_stays c.from_residual.result _ c.from_residual.ensures.1 λ n. func_none c.args.bytes.now c.args.tag c.in-96.is (c.in_err-params-in-96.ensures.none n)

pub returns-in_err-field-in-94-clause-none : goal.returns-in_err-field-in-94-clause-none
returns-in_err-field-in-94-clause-none g c = fault_stays c.from_residual-in_err-field-in-94.result _ c.from_residual-in_err-field-in-94.ensures.1 λ n. array_none c.args.bytes.now c.args.tag c.in-94.is (c.in_err-field-in-94.ensures.none n)

pub returns-in_err-fields-in-95-clause-none : goal.returns-in_err-fields-in-95-clause-none
returns-in_err-fields-in-95-clause-none g c = fault_stays c.from_residual-in_err-fields-in-95.result _ c.from_residual-in_err-fields-in-95.ensures.1 λ n. structure_none c.args.bytes.now c.args.tag c.in-95.is (c.in_err-fields-in-95.ensures.none n)

pub returns-in_err-index-in-93-clause-none : goal.returns-in_err-index-in-93-clause-none
returns-in_err-index-in-93-clause-none g c = fault_stays c.from_residual-in_err-index-in-93.result _ c.from_residual-in_err-index-in-93.ensures.1 λ n. cont_none c.args.bytes.now c.args.tag c.in-93.is (c.in_err-index-in-93.ensures.none n)
