use Rattle.wasm_custom.proofs.Common.{fault_stays, definition_none, definition_decodes}
use Rattle.wasm_custom.proofs.symbols.DataSymbolDefinitionReadable.read.Goals as goal

pub returns-in_err-index-clause-none : goal.returns-in_err-index-clause-none
returns-in_err-index-clause-none g c = fault_stays c.from_residual.result _ c.from_residual.ensures.1 λ n. definition_none c.args.bytes.now (c.in_err-index.ensures.none n)

pub returns-clause-found : goal.returns-clause-found
returns-clause-found g c = search (definition_decodes, c.in_ok-index.ensures.found)
