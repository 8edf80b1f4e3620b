-- This file proves that the items of custom sections have an encoding after a map of their indices.
use Rattle.wasm_base.proofs.Words.{ℕ, ◌∷◌, [], map, Option, Some, refl}
use Rattle.std.specs.Option.{option_map}
use Rattle.wasm_base.specs.Formats.{Format, u32, pair}
use Rattle.wasm_custom.specs.CodeMetadata.{call_targets_payload, frequencies_payload, hinted, orders_payload, targets}
use Rattle.wasm_custom.specs.CoreDumps.{instance_of, instance, instances_payload}
use Rattle.wasm_custom.specs.Comdats.{comdat_symbol_of, comdat_symbol, comdat_of, comdat}
use Rattle.wasm_custom.specs.Hints.{hints_payload}
use Rattle.wasm_custom.specs.Linking.{Segments, InitFunctions, Comdats, Symbols, Target, OtherLink, full_link_tags, other_link, full_link, link, linking_payload}
use Rattle.wasm_custom.specs.Names.{Module, Map, Indirect, Other, NameKind, of_module, of_map, of_indirect, of_other, name_kind_of, after_id, name_payload}
use Rattle.wasm_custom.specs.Relocations.{plain_of, addend32_of, addend64_of, after_kind, relocations_payload}
use Rattle.wasm_custom.specs.Symbols.{definition_of, definition, indexed_of, data_of, indexed_symbol, data_symbol, of_section, section_symbol, full_symbol_tags, full_symbol, has_definition}
use Rattle.wasm_custom.specs.declared.relocations.RelocationKind.{RelocationKind}
use Rattle.wasm_custom.specs.declared.relocations.RelocationKind.TheVariants as kinds
use Rattle.wasm_custom.specs.declared.symbols.SymbolKind.{SymbolKind}
use Rattle.wasm_custom.specs.declared.symbols.SymbolKind.TheVariants.{Function, Global, Table, Tag}
use Rattle.wasm_remap.specs.Customs.{space_among, name_spaces, remapped_name, remapped_hints, remapped_hints_in, remapped_target_hint, remapped_targets, remapped_instance, space_of_symbol, remapped_definition, remapped_symbol, comdat_spaces, remapped_member, remapped_comdat, remapped_link, space_of_relocation, remapped_relocation}
use Rattle.wasm_remap.specs.Mapping.{Mapping, IsSmall, mapped_first, mapped_in}
use Rattle.wasm_remap.specs.declared.spaces.IndexSpace.{IndexSpace}
use Rattle.wasm_remap.specs.declared.spaces.IndexSpace.TheVariants as spaces
use Rattle.wasm_remap.proofs.MappedCode.{index_maps, number_maps}
use Rattle.wasm_remap.proofs.MappedForms.{Maps, kept, mapped_maps, pair_maps, prefixed_maps, then_maps, tagged_maps, choice_maps, selected_maps, optional_maps, members_maps, vec_maps, size_prefixed_maps}

module _ (m : Mapping) (small : IsSmall m) where
  -- ---- names

  pub first_maps : {X : Type 0} {F : Format X} (space : Option IndexSpace) → Maps (mapped_first m space) (pair u32 F)
  first_maps space = pair_maps (number_maps m small space) (λ n. kept)

  after_id_maps : (kind : NameKind) (id : ℕ) → Maps (remapped_name m) (after_id kind id)
  after_id_maps of_module id = mapped_maps Module (λ n. n) (λ n. refl) kept
  after_id_maps of_map id = mapped_maps (Map id) (map (mapped_first m (space_among name_spaces id))) (λ ns. refl) (size_prefixed_maps (vec_maps (first_maps (space_among name_spaces id))))
  after_id_maps of_indirect id = mapped_maps (Indirect id) (map (mapped_first m (space_among name_spaces id))) (λ ns. refl) (size_prefixed_maps (vec_maps (first_maps (space_among name_spaces id))))
  after_id_maps of_other id = mapped_maps (Other id) (λ bytes. bytes) (λ bytes. refl) kept

  pub name_maps : Maps (map (remapped_name m)) name_payload
  name_maps = tagged_maps (λ u. tagged_maps (λ v. members_maps (tagged_maps (λ id. after_id_maps (name_kind_of id) id))))

  -- ---- hints

  pub hints_maps : Maps (map (remapped_hints m)) hints_payload
  hints_maps = tagged_maps (λ u. tagged_maps (λ v. vec_maps (first_maps (Some spaces.Functions))))

  pub frequencies_maps : Maps (map (remapped_hints_in m)) frequencies_payload
  frequencies_maps = tagged_maps (λ u. tagged_maps (λ v. vec_maps (first_maps (Some spaces.Functions))))

  pub orders_maps : Maps (map (remapped_hints_in m)) orders_payload
  orders_maps = tagged_maps (λ u. tagged_maps (λ v. vec_maps (first_maps (Some spaces.Functions))))

  target_hint_maps : Maps (remapped_target_hint m) (hinted targets)
  target_hint_maps = pair_maps kept (λ n. size_prefixed_maps (members_maps (first_maps (Some spaces.Functions))))

  pub call_targets_maps : Maps (map (remapped_targets m)) call_targets_payload
  call_targets_maps = tagged_maps (λ u. tagged_maps (λ v. vec_maps (pair_maps (index_maps m small spaces.Functions) (λ n. vec_maps target_hint_maps))))

  -- ---- core dumps

  instance_maps : Maps (remapped_instance m) instance
  instance_maps = mapped_maps instance_of (λ p. (p.0, (map (m spaces.Memories) p.1.0, map (m spaces.Globals) p.1.1))) (λ p. refl) (prefixed_maps (0x00 ∷ []) (pair_maps kept (λ n. pair_maps (vec_maps (index_maps m small spaces.Memories)) (λ ns. vec_maps (index_maps m small spaces.Globals)))))

  pub instances_maps : Maps (map (remapped_instance m)) instances_payload
  instances_maps = tagged_maps (λ u. tagged_maps (λ v. vec_maps instance_maps))

  -- ---- linking

  definition_maps : Maps (remapped_definition m) definition
  definition_maps = mapped_maps definition_of (λ p. (m spaces.Data p.0, p.1)) (λ p. refl) (pair_maps (index_maps m small spaces.Data) (λ n. kept))

  indexed_maps : (kind : SymbolKind) → Maps (remapped_symbol m) (indexed_symbol kind)
  indexed_maps kind = tagged_maps (λ flags. mapped_maps (indexed_of kind flags) (λ p. (m (space_of_symbol kind) p.0, p.1)) (λ p. refl) (pair_maps (index_maps m small (space_of_symbol kind)) (λ n. kept)))

  data_maps : Maps (remapped_symbol m) data_symbol
  data_maps = tagged_maps (λ flags. mapped_maps (data_of flags) (λ p. (p.0, option_map (remapped_definition m) p.1)) (λ p. refl) (pair_maps kept (λ n. optional_maps (has_definition flags) definition_maps)))

  section_maps : Maps (remapped_symbol m) section_symbol
  section_maps = tagged_maps (λ flags. mapped_maps (of_section flags) (λ n. n) (λ n. refl) kept)

  symbol_maps : Maps (remapped_symbol m) full_symbol
  symbol_maps = selected_maps full_symbol_tags (indexed_maps Function, (data_maps, (indexed_maps Global, (section_maps, (indexed_maps Tag, (indexed_maps Table, tt))))))

  member_maps : Maps (remapped_member m) comdat_symbol
  member_maps = mapped_maps comdat_symbol_of (λ p. (p.0, mapped_in m (space_among comdat_spaces p.0) p.1)) (λ p. refl) (then_maps (λ kind. number_maps m small (space_among comdat_spaces kind)))

  comdat_maps : Maps (remapped_comdat m) comdat
  comdat_maps = mapped_maps comdat_of (λ p. (p.0, (p.1.0, map (remapped_member m) p.1.1))) (λ p. refl) (pair_maps kept (λ n. pair_maps kept (λ flags. vec_maps member_maps)))

  full_link_maps : Maps (remapped_link m) full_link
  full_link_maps = tagged_maps (choice_maps full_link_tags other_link (
    mapped_maps Segments (λ xs. xs) (λ xs. refl) kept,
    (
      mapped_maps InitFunctions (λ xs. xs) (λ xs. refl) kept,
      (
        mapped_maps Comdats (map (remapped_comdat m)) (λ xs. refl) (size_prefixed_maps (vec_maps comdat_maps)),
        (mapped_maps Symbols (map (remapped_symbol m)) (λ xs. refl) (size_prefixed_maps (vec_maps symbol_maps)), (mapped_maps Target (λ n. n) (λ n. refl) kept, tt)),
      ),
    ),
  ) (λ id. mapped_maps (OtherLink id) (λ bytes. bytes) (λ bytes. refl) kept))

  link_maps : Maps (remapped_link m) link
  link_maps = record { form = λ s x l h. full_link_maps.form s x l h }

  pub linking_maps : Maps (map (remapped_link m)) linking_payload
  linking_maps = tagged_maps (λ u. tagged_maps (λ v. members_maps link_maps))

  -- ---- relocations

  after_kind_maps : (kind : RelocationKind) → Maps (remapped_relocation m) (after_kind kind)
  after_kind_maps (kinds.Plain k) = mapped_maps (plain_of k) (λ p. (p.0, mapped_in m (space_of_relocation k) p.1)) (λ p. refl) (pair_maps kept (λ offset. number_maps m small (space_of_relocation k)))
  after_kind_maps (kinds.Addend32 k) = mapped_maps (addend32_of k) (λ p. p) (λ p. refl) kept
  after_kind_maps (kinds.Addend64 k) = mapped_maps (addend64_of k) (λ p. p) (λ p. refl) kept

  pub relocations_maps : Maps (λ x. (x.0, (x.1.0, map (remapped_relocation m) x.1.1))) relocations_payload
  relocations_maps = pair_maps kept (λ n. pair_maps kept (λ section. vec_maps (tagged_maps after_kind_maps)))
