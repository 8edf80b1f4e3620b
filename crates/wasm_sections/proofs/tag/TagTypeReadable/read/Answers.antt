use Rattle.wasm_sections.proofs.Common.{fault_stays, tag_none, tag_decodes}
use Rattle.wasm_sections.proofs.tag.TagTypeReadable.read.Goals as goal

pub returns-in_err-kind-clause-none : goal.returns-in_err-kind-clause-none
returns-in_err-kind-clause-none g c = fault_stays c.from_residual.result _ c.from_residual.ensures.1 λ n. tag_none c.args.bytes.now (c.in_err-kind.ensures.none n)

pub returns-clause-found : goal.returns-clause-found
returns-clause-found g c = search (tag_decodes, c.in_ok-kind.ensures.found)
