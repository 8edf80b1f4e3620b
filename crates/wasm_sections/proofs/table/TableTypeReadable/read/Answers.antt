use Rattle.wasm_base.proofs.Words.{fault_stays}
use Rattle.wasm_sections.proofs.DecodeLimits.{table_none, table_decodes}
use Rattle.wasm_sections.proofs.table.TableTypeReadable.read.Goals as goal

pub returns-in_err-element_type-clause-none : goal.returns-in_err-element_type-clause-none
returns-in_err-element_type-clause-none g c = fault_stays c.from_residual.result _ c.from_residual.ensures.1 λ n. table_none c.args.bytes.now (c.in_err-element_type.ensures.none n)

pub returns-clause-found : goal.returns-clause-found
returns-clause-found g c = search (table_decodes, c.in_ok-element_type.ensures.found)
