use Rattle.std.proofs.Common.{◌≡◌, ap, sym, ◌∙◌, map, List, ℕ, Bor}
use Rattle.wasm_custom.specs.Names.{Indirect, Map, id_of, inside_view, name_item_view, names_view}
use Rattle.wasm_remap.specs.Customs.{name_spaces, space_among}
use Rattle.wasm_remap.specs.Removed.{staying, trimmed_name}
use Rattle.wasm_remap.proofs.RemovedLaws.{staying_view}
use Rattle.wasm_remap.proofs.remove.remove_names.Goals as goal

pub returns-in-Map : goal.returns-in-Map
returns-in-Map g c =
    let old = c.in-Map.names.items in
    let space : c.space_of_subsection-space.result ≡ space_among name_spaces c.in-Map.id = c.space_of_subsection-space.ensures ∙ ap (λ s. space_among name_spaces (id_of (name_item_view s))) c.in-Map.is in
    ap (Map c.in-Map.id) (ap names_view c.remove_pairs.ensures ∙ staying_view (λ b. b.now) c.args.removed.now c.space_of_subsection-space.result old ∙ ap (λ s. staying c.args.removed.now s (names_view old)) space) ∙ sym (ap (λ s. trimmed_name c.args.removed.now (name_item_view s)) c.in-Map.is)

pub returns-in-Indirect : goal.returns-in-Indirect
returns-in-Indirect g c =
    let old = c.in-Indirect.maps.items in
    let space : c.space_of_subsection-space.result ≡ space_among name_spaces c.in-Indirect.id = c.space_of_subsection-space.ensures ∙ ap (λ s. space_among name_spaces (id_of (name_item_view s))) c.in-Indirect.is in
    ap (Indirect c.in-Indirect.id) (ap (map inside_view) c.remove_pairs-in-Indirect.ensures ∙ staying_view (λ v. names_view v.items) c.args.removed.now c.space_of_subsection-space.result old ∙ ap (λ s. staying c.args.removed.now s (map inside_view old)) space) ∙ sym (ap (λ s. trimmed_name c.args.removed.now (name_item_view s)) c.in-Indirect.is)
