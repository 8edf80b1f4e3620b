use Rattle.wasm_custom.proofs.Common.{on_ok, refl, stored_back, same_encodable}
use Rattle.wasm_custom.proofs.entries.CustomEntriesEncode.encode.Goals as goal

pub returns-clause-read : goal.returns-clause-read
returns-clause-read g c =
    on_ok c.encode_entries.result _ _ c.encode_entries.ensures.appends.was_encodable λ encodable.
    rw (← c.self.view_is) (stored_back _ _ _ _ _ c.laws.ensures c.layout_laws.ensures g.S.Store.model _ c.encode_entries.ensures.few
    (same_encodable _ _ _ _ _ _ _ _ c.name.ensures c.front.ensures c.counted.ensures refl encodable) c.cut.ensures c.cut-2.ensures)
