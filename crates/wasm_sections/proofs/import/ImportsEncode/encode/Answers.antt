use Rattle.wasm_sections.proofs.Common.{◌∷◌, ◌++◌, ap, subst, sym, Appends, size_prefixed_encoding, HasEncodableSize, entity_encoding, import_encoding, IsEncodableImport, named_encoding, compact_item}
use Rattle.wasm_sections.proofs.Common.{imports_item, viewed_encoding, viewed_encodable, encodable_viewed, appends_same}
use Rattle.wasm_sections.proofs.import.ImportsEncode.encode.Goals as goal

pub returns-in-Compact1-clause-appends : goal.returns-in-Compact1-clause-appends
returns-in-Compact1-clause-appends g c =
    let e = c.as_slice.ensures in
    let encoding_of_items = viewed_encoding named_encoding (λ i. HasEncodableSize i.0) compact_item e in
    subst (λ imports. Appends (import_encoding (imports_item imports)) (IsEncodableImport (imports_item imports)) c.args.sink.now c.encode-in-Compact1.new.sink c.encode-in-Compact1.result) (sym c.in-Compact1.is)
    (appends_same {new = c.encode-in-Compact1.new.sink} c.encode-in-Compact1.ensures.appends (ap (λ s. size_prefixed_encoding c.in-Compact1.module.now ++ (0x00 ∷ 0x7F ∷ s)) encoding_of_items)
    (λ h. (h.0, viewed_encodable named_encoding (λ i. HasEncodableSize i.0) compact_item e h.2))
    (λ h. (h.0, tt, encodable_viewed named_encoding (λ i. HasEncodableSize i.0) compact_item e h.1)))

pub returns-in-Compact2-clause-appends : goal.returns-in-Compact2-clause-appends
returns-in-Compact2-clause-appends g c =
    let e = c.as_slice-in-Compact2.ensures in
    let encoding_of_names = viewed_encoding size_prefixed_encoding HasEncodableSize (λ n. n.now) e in
    subst (λ imports. Appends (import_encoding (imports_item imports)) (IsEncodableImport (imports_item imports)) c.args.sink.now c.encode-in-Compact2.new.sink c.encode-in-Compact2.result) (sym c.in-Compact2.is)
    (appends_same {new = c.encode-in-Compact2.new.sink} c.encode-in-Compact2.ensures.appends (ap (λ s. size_prefixed_encoding c.in-Compact2.module.now ++ (0x00 ∷ 0x7E ∷ (entity_encoding c.in-Compact2.ty ++ s))) encoding_of_names)
    (λ h. (h.0, viewed_encodable size_prefixed_encoding HasEncodableSize (λ n. n.now) e h.2.1))
    (λ h. (h.0, tt, (tt, encodable_viewed size_prefixed_encoding HasEncodableSize (λ n. n.now) e h.1))))
