use Rattle.wasm_sections.proofs.Common.{fault_stays, tag_kind_none, tag_kind_unknown}
use Rattle.wasm_sections.proofs.tag.TagKindReadable.read.Goals as goal

pub returns-in_err-code-clause-none : goal.returns-in_err-code-clause-none
returns-in_err-code-clause-none g c = fault_stays c.from_residual.result _ c.from_residual.ensures.1 λ n. tag_kind_none c.args.bytes.now (c.in_err-code.ensures.none n)

pub returns-else-code-eq0-clause-none : goal.returns-else-code-eq0-clause-none
returns-else-code-eq0-clause-none g c = λ n. tag_kind_unknown c.args.bytes.now _ _ c.in_ok-code.ensures.found c.if-code-eq0.false
