use Rattle.wasm_base.proofs.Words.{on_ok, store_decodes}
use Rattle.wasm_types.proofs.type_section.TypeSectionInEncode.encode.Goals as goal

pub returns-clause-read : goal.returns-clause-read
returns-clause-read g c =
    on_ok c.encode.result _ _ c.encode.ensures.appends.was_encodable (λ fits. store_decodes g.S.Store.model g.S.Encode.encoding _ c.laws.ensures _ _ c.self.view_is (g.met.S.Store.fits _ fits) (g.met.S.Store.encodes _) c.cut.ensures c.cut-2.ensures)
