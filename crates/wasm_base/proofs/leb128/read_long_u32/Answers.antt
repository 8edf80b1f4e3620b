use Rattle.wasm_base.proofs.Std.{arith}
use Rattle.wasm_base.proofs.DecodeNumbers.{u32_none, u32_large}
use Rattle.wasm_base.proofs.Faults.{fault_stays}
use Rattle.wasm_base.proofs.leb128.read_long_u32.Goals as goal

pub returns-in_err-groups-clause-none : goal.returns-in_err-groups-clause-none
returns-in_err-groups-clause-none g c = fault_stays c.from_residual.result _ c.from_residual.ensures.1 λ n. u32_none _ c.args.bytes.now c.in_err-groups.ensures.none

pub returns-else-groups-clause-none : goal.returns-else-groups-clause-none
returns-else-groups-clause-none g c = λ e. u32_large _ c.args.bytes.now _ _ _ _ c.in_ok-groups.ensures.found (omega (arith, c.if-groups.false))
