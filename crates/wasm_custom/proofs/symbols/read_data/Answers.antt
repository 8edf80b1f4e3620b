use Rattle.wasm_custom.proofs.Common.{fault_stays, data_none, data_no_name}
use Rattle.wasm_custom.proofs.symbols.read_data.Goals as goal

pub returns-in_err-flags-clause-none : goal.returns-in_err-flags-clause-none
returns-in_err-flags-clause-none g c = fault_stays c.from_residual.result _ c.from_residual.ensures.1 λ n. data_none c.args.bytes.now (c.in_err-flags.ensures.none n)

pub returns-in_err-name-clause-none : goal.returns-in_err-name-clause-none
returns-in_err-name-clause-none g c = fault_stays c.from_residual-in_err-name.result _ c.from_residual-in_err-name.ensures.1 λ n. data_no_name c.args.bytes.now _ _ c.in_ok-flags.ensures.found (c.in_err-name.ensures.none n)
