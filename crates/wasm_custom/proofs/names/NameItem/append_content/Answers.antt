use Rattle.wasm_custom.proofs.Common.{sym, subst, map, on_ok, AppendsMinimal, both_grammars, HasEncoding, inside, id_of, held_by, names_view, inside_view, name_item_view, map_appended, indirect_appended}
use Rattle.wasm_custom.proofs.Common.{map_encoded, indirect_encoded}
use Rattle.wasm_custom.proofs.names.NameItem.append_content.Goals as goal

pub returns-in-Map-clause-ok : goal.returns-in-Map-clause-ok
returns-in-Map-clause-ok g c = on_ok c.write_minimal-in-Map.result _ _ c.write_minimal-in-Map.ensures.ok λ a.
    subst (λ i. AppendsMinimal both_grammars (inside (held_by (name_item_view i)) (id_of (name_item_view i))) (name_item_view i) c.args.sink.now.items c.write_minimal-in-Map.new.sink.items) (sym c.in-Map.is)
    (map_appended c.in-Map.id (names_view c.in-Map.names.items) c.args.sink.now.items c.write_minimal-in-Map.new.sink.items a)

pub returns-in-Indirect-clause-ok : goal.returns-in-Indirect-clause-ok
returns-in-Indirect-clause-ok g c = on_ok c.write_minimal-in-Indirect.result _ _ c.write_minimal-in-Indirect.ensures.ok λ a.
    subst (λ i. AppendsMinimal both_grammars (inside (held_by (name_item_view i)) (id_of (name_item_view i))) (name_item_view i) c.args.sink.now.items c.write_minimal-in-Indirect.new.sink.items) (sym c.in-Indirect.is)
    (indirect_appended c.in-Indirect.id (map inside_view c.in-Indirect.maps.items) c.args.sink.now.items c.write_minimal-in-Indirect.new.sink.items a)

pub returns-in-Map-clause-too_long : goal.returns-in-Map-clause-too_long
returns-in-Map-clause-too_long g c = λ h.
    c.write_minimal-in-Map.ensures.too_long
    (map_encoded c.in-Map.id (names_view c.in-Map.names.items) (subst (λ i. HasEncoding both_grammars (inside (held_by (name_item_view i)) (id_of (name_item_view i))) (name_item_view i)) c.in-Map.is h))

pub returns-in-Indirect-clause-too_long : goal.returns-in-Indirect-clause-too_long
returns-in-Indirect-clause-too_long g c = λ h.
    c.write_minimal-in-Indirect.ensures.too_long
    (indirect_encoded c.in-Indirect.id (map inside_view c.in-Indirect.maps.items) (subst (λ i. HasEncoding both_grammars (inside (held_by (name_item_view i)) (id_of (name_item_view i))) (name_item_view i)) c.in-Indirect.is h))
