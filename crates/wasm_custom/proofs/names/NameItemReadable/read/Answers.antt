use Rattle.wasm_custom.proofs.Common.{fault_stays, subsection_none, subsection_not_size_prefixed, subsection_rejects, subsection_decodes}
use Rattle.wasm_custom.proofs.names.NameItemReadable.read.Goals as goal

pub returns-in_err-id-clause-none : goal.returns-in_err-id-clause-none
returns-in_err-id-clause-none g c = fault_stays c.from_residual.result _ c.from_residual.ensures.1 λ n. subsection_none c.args.bytes.now (c.in_err-id.ensures.none n)

pub returns-in_err-content-clause-none : goal.returns-in_err-content-clause-none
returns-in_err-content-clause-none g c = fault_stays c.from_residual-in_err-content.result _ c.from_residual-in_err-content.ensures.1 λ n. subsection_not_size_prefixed c.args.bytes.now _ _ c.in_ok-id.ensures.found (c.in_err-content.ensures.none n)

pub returns-in_err-item-clause-none : goal.returns-in_err-item-clause-none
returns-in_err-item-clause-none g c = fault_stays c.from_residual-in_err-item.result _ c.from_residual-in_err-item.ensures.1 λ n. subsection_rejects c.args.bytes.now _ _ _ _ _ c.in_ok-id.ensures.found c.in_ok-content.ensures.found c.name_kind_of.ensures (c.in_err-item.ensures.none n)

pub returns-clause-found : goal.returns-clause-found
returns-clause-found g c = search (subsection_decodes, c.in_ok-id.ensures.found, c.in_ok-content.ensures.found, c.in_ok-item.ensures.found, c.name_kind_of.ensures)
