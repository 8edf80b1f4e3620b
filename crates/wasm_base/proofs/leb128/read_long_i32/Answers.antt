use Rattle.wasm_base.proofs.Std.{arith, ints}
use Rattle.wasm_base.proofs.DecodeNumbers.{s32_low, s32_high, s32_none}
use Rattle.wasm_base.proofs.Faults.{fault_stays}
use Rattle.wasm_base.proofs.leb128.read_long_i32.Goals as goal

pub returns-then-value-ltminus2147483648-clause-none : goal.returns-then-value-ltminus2147483648-clause-none
returns-then-value-ltminus2147483648-clause-none g c = λ e. s32_low _ c.args.bytes.now _ _ _ _ _ c.in_ok-groups.ensures.found c.signed_few-value.ensures (omega (arith, ints, c.if-value-ltminus2147483648.true))

pub returns-else-value-lt2147483648-clause-none : goal.returns-else-value-lt2147483648-clause-none
returns-else-value-lt2147483648-clause-none g c = λ e. s32_high _ c.args.bytes.now _ _ _ _ _ c.in_ok-groups.ensures.found c.signed_few-value.ensures (omega (arith, ints, c.if-value-lt2147483648.false))

pub returns-in_err-groups-clause-none : goal.returns-in_err-groups-clause-none
returns-in_err-groups-clause-none g c = fault_stays c.from_residual.result _ c.from_residual.ensures.1 λ n. s32_none _ c.args.bytes.now c.in_err-groups.ensures.none
