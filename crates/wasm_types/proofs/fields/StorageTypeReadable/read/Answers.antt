use Rattle.wasm_types.proofs.Common.{arith, fault_stays, storage_none, val_rejects}
use Rattle.wasm_types.proofs.fields.StorageTypeReadable.read.Goals as goal

pub returns-in_err-tag-clause-none : goal.returns-in_err-tag-clause-none
returns-in_err-tag-clause-none g c = fault_stays c.from_residual.result _ c.from_residual.ensures.1 λ n. storage_none c.args.bytes.now (c.in_err-tag.ensures.none n)

pub returns-in_err-ty-in_default-clause-none : goal.returns-in_err-ty-in_default-clause-none
returns-in_err-ty-in_default-clause-none g c = fault_stays c.from_residual-in_err-ty-in_default.result _ c.from_residual-in_err-ty-in_default.ensures.1 λ n. val_rejects c.args.bytes.now _ _ c.in_ok-tag.ensures.found (omega arith) (omega arith) (c.in_err-ty-in_default.ensures.none n)
