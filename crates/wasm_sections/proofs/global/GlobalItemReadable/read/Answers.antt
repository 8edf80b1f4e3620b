use Rattle.wasm_sections.proofs.Common.{fault_stays, item_none, item_decodes}
use Rattle.wasm_sections.proofs.global.GlobalItemReadable.read.Goals as goal

pub returns-in_err-global_type-clause-none : goal.returns-in_err-global_type-clause-none
returns-in_err-global_type-clause-none g c = fault_stays c.from_residual.result _ c.from_residual.ensures.1 λ n. item_none c.args.bytes.now (c.in_err-global_type.ensures.none n)

pub returns-clause-found : goal.returns-clause-found
returns-clause-found g c = search (item_decodes, c.in_ok-global_type.ensures.found)
