use Rattle.std.proofs.Common.{rules, ◌≡◌, length, ap, sym, ◌∙◌, map}
use Rattle.wasm_custom.specs.Names.{Indirect, id_of, inside_view, name_item_view}
use Rattle.wasm_remap.specs.Customs.{name_spaces, remapped_name, space_among}
use Rattle.wasm_remap.specs.Mapping.{mapped_first}
use Rattle.wasm_remap.proofs.FirstLaws.{on_ok, viewed_back}
use Rattle.wasm_remap.proofs.customs.NameItemIndexed.remap.Goals as goal

pub returns-in-Indirect-clause-ok : goal.returns-in-Indirect-clause-ok
returns-in-Indirect-clause-ok g c =
    let long : length c.remap_maps.new.maps ≡ c.in-Indirect.maps.len = search rules in
    let space : c.space_of_subsection-space.result ≡ space_among name_spaces c.in-Indirect.id = c.space_of_subsection-space.ensures ∙ ap (λ s. space_among name_spaces (id_of (name_item_view s))) c.in-Indirect.is in
    on_ok c.remap_maps.result
    (λ h m follows. ap (Indirect c.in-Indirect.id) (viewed_back inside_view (map (mapped_first m c.space_of_subsection-space.result)) c.remap_maps.new.maps _ long (h m follows) c.deref_mut-in-Indirect.ensures.value ∙ ap (λ s. map (mapped_first m s) (map inside_view c.in-Indirect.maps.items)) space) ∙ sym (ap (λ s. remapped_name m (name_item_view s)) c.in-Indirect.is))
    c.remap_maps.ensures.ok
