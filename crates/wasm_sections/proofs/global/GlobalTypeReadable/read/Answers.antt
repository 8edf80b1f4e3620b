use Rattle.wasm_sections.proofs.Common.{fault_stays, type_none, type_decodes}
use Rattle.wasm_sections.proofs.global.GlobalTypeReadable.read.Goals as goal

pub returns-in_err-val_type-clause-none : goal.returns-in_err-val_type-clause-none
returns-in_err-val_type-clause-none g c = fault_stays c.from_residual.result _ c.from_residual.ensures.1 λ n. type_none c.args.bytes.now (c.in_err-val_type.ensures.none n)

pub returns-clause-found : goal.returns-clause-found
returns-clause-found g c = search (type_decodes, c.in_ok-val_type.ensures.found)
