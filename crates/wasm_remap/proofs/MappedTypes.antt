-- This file proves that the entries of a type section have an encoding after a map of their indices.
use Rattle.wasm_base.proofs.Words.{ℕ, ◌<◌, List, [], ◌∷◌, map, true, false, refl, sym, subst}
use Rattle.std.specs.Option.{option_map}
use Rattle.std.proofs.lemmas.List.{length-map}
use Rattle.wasm_base.specs.Formats.{Format, u32, byte, mapped, tagged, impossible, pair}
use Rattle.wasm_base.specs.Numbers.{builders}
use Rattle.wasm_types.specs.RecTypes.{storage_tags, storage_type, field_of, field_type, func_of, array, structure, cont, shape_tags, after_shape, given_index, no_index, with_index, after_descriptor, after_describes, composite_of}
use Rattle.wasm_types.specs.RecTypes.{after_composite, sub_of, alone_of, supertypes_and, HasFinalPrefix, sub_tags, after_alone, prefixed_sub, sub_type, group_tags, single, group, type_item, Composite}
use Rattle.wasm_types.specs.declared.types.StorageType.TheVariants.{Val}
use Rattle.wasm_remap.specs.Instructions.{remapped_val}
use Rattle.wasm_remap.specs.Mapping.{Mapping, IsSmall}
use Rattle.wasm_remap.specs.Types.{remapped_storage, remapped_field, remapped_shape, remapped_composite, remapped_sub, remapped_type}
use Rattle.wasm_remap.specs.declared.spaces.IndexSpace.TheVariants as spaces
use Rattle.wasm_remap.proofs.MappedCode.{index_maps, val_maps}
use Rattle.wasm_remap.proofs.MappedForms.{Maps, kept, fixed_maps, impossible_maps, such_maps, mapped_maps, pair_maps, tagged_maps, choice_maps, selected_maps, one_of_maps, vec_maps, s33_maps}

module _ (m : Mapping) (small : IsSmall m) where
  storage_maps : Maps (remapped_storage m) storage_type
  storage_maps = one_of_maps (selected_maps storage_tags (fixed_maps [] _ refl, (fixed_maps [] _ refl, tt))) (mapped_maps Val (remapped_val m) (λ t. refl) (val_maps m small))

  field_maps : Maps (remapped_field m) field_type
  field_maps = mapped_maps field_of (λ p. (remapped_storage m p.0, p.1)) (λ p. refl) (pair_maps storage_maps (λ t. kept))

  shape_maps : (b : ℕ) → Maps (remapped_shape m) (after_shape b)
  shape_maps b = choice_maps shape_tags (λ c. impossible) (
    mapped_maps func_of (λ p. (map (remapped_val m) p.0, map (remapped_val m) p.1)) (λ p. refl) (pair_maps (vec_maps (val_maps m small)) (λ ts. vec_maps (val_maps m small))),
    (
      mapped_maps array (remapped_field m) (λ f. refl) field_maps,
      (mapped_maps structure (map (remapped_field m)) (λ fs. refl) (vec_maps field_maps), (mapped_maps cont (m spaces.Types) (λ n. refl) (s33_maps (m spaces.Types) (small spaces.Types)), tt)),
    ),
  ) (λ c. impossible_maps) b

  -- An optional index, and a value.
  indexed_maps : {X : Type 0} {f : X → X} (tag : ℕ) (F : ℕ → Format X) → ((b : ℕ) → Maps f (F b)) → (b : ℕ) → Maps (λ p. (option_map (m spaces.Types) p.0, f p.1)) (with_index tag F b)
  indexed_maps {f = f} tag F k b = choice_maps ((tag, mapped given_index (pair u32 (tagged byte F))) ∷ []) (λ c. mapped no_index (F c)) (
    mapped_maps given_index (λ p. (m spaces.Types p.0, f p.1)) (λ p. refl) (pair_maps (index_maps m small spaces.Types) (λ n. tagged_maps k)),
    tt,
  ) (λ c. mapped_maps no_index f (λ x. refl) (k c)) b

  describes_maps : (b : ℕ) → Maps (λ p. (option_map (m spaces.Types) p.0, (option_map (m spaces.Types) p.1.0, remapped_shape m p.1.1))) (after_describes b)
  describes_maps = indexed_maps 0x4C after_descriptor (indexed_maps 0x4D after_shape shape_maps)

  composite_maps : (b : ℕ) → Maps (remapped_composite m) (after_composite b)
  composite_maps b = choice_maps ((0x65, mapped (composite_of true) (tagged byte after_describes)) ∷ []) (λ c. mapped (composite_of false) (after_describes c)) (mapped_maps (composite_of true) _ (λ p. refl) (tagged_maps describes_maps), tt)
      (λ c. mapped_maps (composite_of false) _ (λ p. refl) (describes_maps c)) b

  supertypes_maps : Maps (λ p. (map (m spaces.Types) p.0, remapped_composite m p.1)) supertypes_and
  supertypes_maps = pair_maps (vec_maps (index_maps m small spaces.Types)) (λ ns. tagged_maps composite_maps)

  has_prefix : (p : List ℕ × Composite) → HasFinalPrefix builders p → HasFinalPrefix builders (map (m spaces.Types) p.0, remapped_composite m p.1)
  has_prefix p h = subst (λ n. 0 < n) (sym (length-map p.0 (m spaces.Types))) h

  prefixed_maps : Maps (remapped_sub m) (prefixed_sub builders)
  prefixed_maps = tagged_maps (choice_maps (sub_tags builders) after_alone (
    mapped_maps (sub_of false) _ (λ p. refl) supertypes_maps,
    (mapped_maps (sub_of true) _ (λ p. refl) (such_maps (HasFinalPrefix builders) has_prefix supertypes_maps), tt),
  ) (λ b. mapped_maps alone_of (remapped_composite m) (λ c. refl) (composite_maps b)))

  sub_maps : Maps (remapped_sub m) sub_type
  sub_maps = record { form = λ s x l h. prefixed_maps.form s x l h }

  pub type_maps : Maps (remapped_type m) type_item
  type_maps = one_of_maps (selected_maps group_tags (mapped_maps group (map (remapped_sub m)) (λ ss. refl) (vec_maps sub_maps), tt)) (mapped_maps single (remapped_sub m) (λ s. refl) sub_maps)
