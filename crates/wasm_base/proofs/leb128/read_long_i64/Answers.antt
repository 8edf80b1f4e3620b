use Rattle.wasm_base.proofs.Std.{arith, ints}
use Rattle.wasm_base.proofs.DecodeNumbers.{s64_low, s64_high, s64_none}
use Rattle.wasm_base.proofs.Faults.{fault_stays}
use Rattle.wasm_base.proofs.leb128.read_long_i64.Goals as goal

pub returns-then-value-ltminus9223372036854775808-clause-none : goal.returns-then-value-ltminus9223372036854775808-clause-none
returns-then-value-ltminus9223372036854775808-clause-none g c = λ e. s64_low _ c.args.bytes.now _ _ _ _ _ c.in_ok-groups.ensures.found c.signed-value.ensures (omega (arith, ints, c.if-value-ltminus9223372036854775808.true))

pub returns-else-value-lt9223372036854775808-clause-none : goal.returns-else-value-lt9223372036854775808-clause-none
returns-else-value-lt9223372036854775808-clause-none g c = λ e. s64_high _ c.args.bytes.now _ _ _ _ _ c.in_ok-groups.ensures.found c.signed-value.ensures (omega (arith, ints, c.if-value-lt9223372036854775808.false))

pub returns-in_err-groups-clause-none : goal.returns-in_err-groups-clause-none
returns-in_err-groups-clause-none g c = fault_stays c.from_residual.result _ c.from_residual.ensures.1 λ n. s64_none _ c.args.bytes.now c.in_err-groups.ensures.none
