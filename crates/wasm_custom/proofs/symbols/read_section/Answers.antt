use Rattle.wasm_base.proofs.Words.{fault_stays}
use Rattle.wasm_custom.proofs.SymbolLaws.{section_none}
use Rattle.wasm_custom.proofs.symbols.read_section.Goals as goal

pub returns-in_err-flags-clause-none : goal.returns-in_err-flags-clause-none
returns-in_err-flags-clause-none g c = fault_stays c.from_residual.result _ c.from_residual.ensures.1 λ n. section_none c.args.bytes.now (c.in_err-flags.ensures.none n)
