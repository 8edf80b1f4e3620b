use Rattle.wasm_code.proofs.Common.{on_ok, code_decodes}
use Rattle.wasm_code.proofs.code_section.CodeSectionInEncode.encode.Goals as goal

pub returns-clause-read : goal.returns-clause-read
returns-clause-read g c =
    on_ok c.encode.result _ _ c.encode.ensures.appends.was_encodable (λ fits. code_decodes g.S.Store.model g.S.Encode.encoding _ _ c.self.view_is (g.met.S.Store.fits _ fits) (g.met.S.Store.encodes _) c.cut.ensures c.cut-2.ensures c.cut-3.ensures)
