use Rattle.wasm_base.proofs.Std.{arith}
use Rattle.wasm_base.proofs.Faults.{fault_stays}
use Rattle.wasm_base.proofs.DecodeTypes.{val_no_ref}
use Rattle.wasm_base.proofs.types.read_val_after.Goals as goal

pub returns-in_err-ty-in_default-clause-none : goal.returns-in_err-ty-in_default-clause-none
returns-in_err-ty-in_default-clause-none g c = fault_stays c.from_residual.result _ c.from_residual.ensures.1 λ n.
    val_no_ref c.args.bytes.now c.args.tag (omega arith) (omega arith) (omega arith) (omega arith) (omega arith) (c.in_err-ty-in_default.ensures.none n)
