-- This file proves that the items of the standard's sections have an encoding after a map of their
-- indices.
use Rattle.wasm_base.proofs.Words.{◌≡◌, ℕ, zero, suc, ◌+◌, ◌*◌, ◌^◌, ◌≤◌, ◌<◌, List, [], ◌∷◌, ◌++◌, length, map, Bool, true, false, Some, None, ◌==◌, ne_eqb, cond, inl, refl, sym, ap, subst, ◌∙◌, arith, length-append}
use Rattle.wasm_base.specs.Formats.{u32, byte, mapped, such, pair, vec}
use Rattle.wasm_base.specs.Numbers.{standard_minimal, unsigned_encoding, builders}
use Rattle.wasm_base.specs.Types.{FUNCREF, ref_type}
use Rattle.wasm_base.specs.declared.types.AbstractHeapType.TheVariants as kinds
use Rattle.wasm_code.specs.Expressions.{expression}
use Rattle.wasm_immediates.specs.ImmediateFormats.{HasIndex}
use Rattle.wasm_immediates.specs.Immediates.{where_set}
use Rattle.wasm_insn.specs.Words.{Plain}
use Rattle.wasm_sections.specs.DataSegments.{in_first, in_memory, data_tags, data_in, data_item, DataItem}
use Rattle.wasm_sections.specs.Elements.{ElementFlag, flag_code, has_kind, SegmentMode, ElementList, segment_mode, in_table, list_of, functions, elements_as, segment_of, element}
use Rattle.wasm_sections.specs.Exports.{export_of, export}
use Rattle.wasm_sections.specs.Globals.{global_of, global_type, global_from, global_item}
use Rattle.wasm_sections.specs.Imports.{entity_tags, entity, group_tags, group, single, named, alike_of, after_module, import_of, import_format}
use Rattle.wasm_sections.specs.Tables.{table_of, table_type, without_init, with_init, before_init, table_item}
use Rattle.wasm_sections.specs.Tags.{tag_of, tag_type}
use Rattle.wasm_sections.specs.Elements.{active, declared, passive}
use Rattle.wasm_sections.specs.DataSegments.{active as active_data, passive as passive_data}
use Rattle.wasm_sections.specs.declared.import.EntityType.TheVariants.{Function, Table, Memory, Global, Tag, FunctionExact}
use Rattle.wasm_remap.specs.Instructions.{remapped_ref, remapped_val}
use Rattle.wasm_remap.specs.Items.{remapped_expression, remapped_table_type, remapped_global_type, remapped_tag, remapped_entity, remapped_imported, remapped_import, space_of_export, remapped_export, remapped_table, remapped_global}
use Rattle.wasm_remap.specs.Items.{remapped_mode, remapped_elements, remapped_element, remapped_data}
use Rattle.wasm_remap.specs.Mapping.{Mapping, IsSmall}
use Rattle.wasm_remap.specs.declared.spaces.IndexSpace.TheVariants as spaces
use Rattle.wasm_remap.proofs.MappedCode.{index_maps, ref_maps, val_maps, expression_maps}
use Rattle.wasm_remap.proofs.MappedForms.{Maps, kept, fixed_maps, when_maps, mapped_maps, pair_maps, tagged_maps, prefixed_maps, selected_maps, one_of_maps, vec_maps, chosen_gives, number_length, some_groups, u32_encoded}

-- The number of a flag is below 2^32.
flag_small : (f : ElementFlag) → flag_code f < 2 ^ 32
flag_small f = omega (arith, weight f.not_active 1, weight f.second 2, weight f.expressions 4)
  where
    weight : (b : Bool) (n : ℕ) → where_set b n ≤ n
    weight true n = omega arith
    weight false n = omega arith

module _ (m : Mapping) (small : IsSmall m) where
  -- ---- types of entities, and imports

  table_type_maps : Maps (remapped_table_type m) table_type
  table_type_maps = mapped_maps table_of (λ p. (remapped_ref m p.0, p.1)) (λ p. refl) (pair_maps (ref_maps m small) (λ r. kept))

  global_type_maps : Maps (remapped_global_type m) global_type
  global_type_maps = mapped_maps global_of (λ p. (remapped_val m p.0, p.1)) (λ p. refl) (pair_maps (val_maps m small) (λ t. kept))

  pub tag_maps : Maps (remapped_tag m) tag_type
  tag_maps = mapped_maps tag_of (λ p. (p.0, m spaces.Types p.1)) (λ p. refl) (pair_maps kept (λ k. index_maps m small spaces.Types))

  entity_maps : Maps (remapped_entity m) entity
  entity_maps = selected_maps entity_tags (
    mapped_maps Function (m spaces.Types) (λ n. refl) (index_maps m small spaces.Types),
    (
      mapped_maps Table (remapped_table_type m) (λ t. refl) table_type_maps,
      (
        mapped_maps Memory (λ t. t) (λ t. refl) kept,
        (mapped_maps Global (remapped_global_type m) (λ t. refl) global_type_maps, (mapped_maps Tag (remapped_tag m) (λ t. refl) tag_maps, (mapped_maps FunctionExact (m spaces.Types) (λ n. refl) (index_maps m small spaces.Types), tt))),
      ),
    ),
  )

  group_maps : Maps (remapped_imported m) group
  group_maps = selected_maps group_tags (
    mapped_maps named (map (λ item. (item.0, remapped_entity m item.1))) (λ items. refl) (vec_maps (pair_maps kept (λ n. entity_maps))),
    (mapped_maps alike_of (λ p. (remapped_entity m p.0, p.1)) (λ p. refl) (pair_maps entity_maps (λ e. kept)), tt),
  )

  after_module_maps : Maps (remapped_imported m) after_module
  after_module_maps = one_of_maps (tagged_maps (λ n. mapped_maps (single n) (remapped_entity m) (λ e. refl) entity_maps)) (prefixed_maps (0x00 ∷ []) group_maps)

  pub import_maps : Maps (remapped_import m) import_format
  import_maps = mapped_maps import_of (λ p. (p.0, remapped_imported m p.1)) (λ p. refl) (pair_maps kept (λ n. after_module_maps))

  -- ---- exports, tables and globals

  pub export_maps : Maps (remapped_export m) export
  export_maps = mapped_maps export_of (λ p. (p.0, (p.1.0, m (space_of_export p.1.0) p.1.1))) (λ p. refl) (pair_maps kept (λ n. pair_maps kept (λ k. index_maps m small (space_of_export k))))

  pub table_maps : Maps (remapped_table m) table_item
  table_maps = one_of_maps (mapped_maps without_init (remapped_table_type m) (λ t. refl) table_type_maps) (mapped_maps with_init (λ p. (remapped_table_type m p.0, remapped_expression m p.1)) (λ p. refl) (prefixed_maps before_init (pair_maps table_type_maps (λ t. expression_maps m small))))

  pub global_maps : Maps (remapped_global m) global_item
  global_maps = mapped_maps global_from (λ p. (remapped_global_type m p.0, remapped_expression m p.1)) (λ p. refl) (pair_maps global_type_maps (λ t. expression_maps m small))

  -- ---- data segments

  -- The encoding of a data segment in this memory, whose offset and bytes are encoded.
  data_written : (n : ℕ) → n < 2 ^ 32 → (t : List ℕ) (parts : List Plain × List ℕ) → pair expression (vec byte) standard_minimal t parts → (w : List ℕ) × data_in builders standard_minimal w (active_data n parts.0 parts.1) × (length w ≤ 10 + length t)
  data_written zero l t parts h =
      let flag = unsigned_encoding 0 in
      (flag ++ t, ((0, active_data 0 parts.0 parts.1), refl, record { front = flag; back = t; joined = refl; first = u32_encoded 0 (omega arith); second = (parts, refl, h) }), omega (arith, length-append flag t, number_length 0 (omega arith)))
  data_written (suc k) l t parts h =
      let flag = unsigned_encoding 2 in
      let index = unsigned_encoding (suc k) in (
        flag ++ (index ++ t),
        (
          (2, active_data (suc k) parts.0 parts.1),
          refl,
          record {
            front = flag;
            back = index ++ t;
            joined = refl;
            first = u32_encoded 2 (omega arith);
            second = ((suc k, parts), refl, record { front = index; back = t; joined = refl; first = (u32_encoded (suc k) l, omega arith); second = h });
          },
        ),
        omega (arith, length-append flag (index ++ t), length-append index t, number_length 2 (omega arith), number_length (suc k) l),
      )

  -- A data segment whose bytes after the flag are `t` has an encoding after the map.
  abbrev DataForm : List ℕ → DataItem → Type 0
  DataForm t x = length t < 2 ^ 26 → (w : List ℕ) × data_in builders standard_minimal w (remapped_data m x) × (length w ≤ 15 + 32 * length t)

  pub data_maps : Maps (remapped_data m) data_item
  data_maps = record {
    form = λ s x l h.
        let size : length s ≡ length h.2.front + length h.2.back = ap length h.2.joined ∙ length-append h.2.front h.2.back in
        let a = chosen_gives DataForm (data_tags builders) (in_first_form, (passive_form, (in_memory_form, tt))) h.0.0 h.2.back h.0.1 h.2.second (omega (arith, l, size)) in
        (a.0, subst (λ y. data_in builders standard_minimal a.0 (remapped_data m y)) h.1 a.1, omega (arith, a.2, size, some_groups h.2.front h.2.first.groups));
  }
    where
      parts_maps : Maps (λ p. (remapped_expression m p.0, p.1)) (pair expression (vec byte))
      parts_maps = pair_maps (expression_maps m small) (λ e. kept)

      in_first_form : (t : List ℕ) (x : DataItem) → mapped in_first (pair expression (vec byte)) standard_minimal t x → DataForm t x
      in_first_form t x h l =
          let a = parts_maps.form t h.0 l h.2 in
          let w = data_written (m spaces.Memories 0) (small spaces.Memories 0 (omega arith)) a.0 (remapped_expression m h.0.0, h.0.1) a.1 in
          (w.0, subst (λ y. data_in builders standard_minimal w.0 (remapped_data m y)) h.1 w.1, omega (arith, w.2, a.2))

      passive_form : (t : List ℕ) (x : DataItem) → mapped passive_data (vec byte) standard_minimal t x → DataForm t x
      passive_form t x h l =
          let flag = unsigned_encoding 1 in
          (flag ++ t, subst (λ y. data_in builders standard_minimal (flag ++ t) (remapped_data m y)) h.1 ((1, passive_data h.0), refl, record { front = flag; back = t; joined = refl; first = u32_encoded 1 (omega arith); second = (h.0, refl, h.2) }), omega (arith, length-append flag t, number_length 1 (omega arith)))

      in_memory_form : (t : List ℕ) (x : DataItem) → mapped in_memory (pair (such (HasIndex builders) u32) (pair expression (vec byte))) standard_minimal t x → DataForm t x
      in_memory_form t x h l =
          let size : length t ≡ length h.2.front + length h.2.back = ap length h.2.joined ∙ length-append h.2.front h.2.back in
          let a = parts_maps.form h.2.back h.0.1 (omega (arith, l, size)) h.2.second in
          let w = data_written (m spaces.Memories h.0.0) (small spaces.Memories h.0.0 h.2.first.0.range) a.0 (remapped_expression m h.0.1.0, h.0.1.1) a.1 in
          (w.0, subst (λ y. data_in builders standard_minimal w.0 (remapped_data m y)) h.1 w.1, omega (arith, w.2, a.2, size))

  -- ---- element segments

  -- The encoding of an element segment with this flag, whose mode and elements are encoded.
  element_written : (f : ElementFlag) (t w : List ℕ) (mode : SegmentMode (List Plain)) (es : ElementList (List Plain)) → segment_mode f standard_minimal t mode → elements_as (has_kind f) f.expressions standard_minimal w es → (v : List ℕ) × element standard_minimal v (segment_of (mode, es)) × (length v ≤ 5 + (length t + length w))
  element_written f t w mode es h g =
      let front = unsigned_encoding (flag_code f) in (
        front ++ (t ++ w),
        ((f, segment_of (mode, es)), refl, record { front = front; back = t ++ w; joined = refl; first = u32_encoded (flag_code f) (flag_small f); second = ((mode, es), refl, record { front = t; back = w; joined = refl; first = h; second = g }) }),
        omega (arith, length-append front (t ++ w), length-append t w, number_length (flag_code f) (flag_small f)),
      )

  elements_maps : (explicit of_expressions : Bool) → Maps (remapped_elements m) (elements_as explicit of_expressions)
  elements_maps explicit of_expressions = when_maps of_expressions
      (mapped_maps list_of (λ p. (remapped_ref m p.0, map (remapped_expression m) p.1)) (λ p. refl) (pair_maps (when_maps explicit (ref_maps m small) (fixed_maps [] FUNCREF refl)) (λ r. vec_maps (expression_maps m small))))
      (mapped_maps functions (map (m spaces.Functions)) (λ fs. refl) (prefixed_maps _ (vec_maps (index_maps m small spaces.Functions))))

  -- The same elements after the byte of their kind, or after their type.
  made_explicit : (of_expressions : Bool) (t : List ℕ) (es : ElementList (List Plain)) → elements_as false of_expressions standard_minimal t es → (w : List ℕ) × elements_as true of_expressions standard_minimal w es × (length w ≤ 1 + length t)
  made_explicit true t es h =
      let same : t ≡ h.2.back = h.2.joined ∙ ap (λ z. z ++ h.2.back) h.2.first.0 in
      let type : ref_type standard_minimal (0x70 ∷ []) h.0.0 = inl (kinds.Func, sym h.2.first.1, refl) in
      (0x70 ∷ h.2.back, (h.0, h.1, record { front = 0x70 ∷ []; back = h.2.back; joined = refl; first = type; second = h.2.second }), omega (arith, ap length same))
  made_explicit false t es h =
      let k = h.2.2 in
      let same : t ≡ k.back = k.joined ∙ ap (λ z. z ++ k.back) k.first.0 in
      (0x00 ∷ k.back, (h.0, h.1, ((tt, h.2.0.1), h.2.1, record { front = 0x00 ∷ []; back = k.back; joined = refl; first = (refl, refl); second = k.second })), omega (arith, ap length same))

  -- The encoding of an active element segment, which names its table unless that is table 0.
  table_written : (n : ℕ) → n < 2 ^ 32 → (e : Bool) (t w : List ℕ) (offset : List Plain) (es : ElementList (List Plain)) → expression standard_minimal t offset → elements_as false e standard_minimal w es → (v : List ℕ) × element standard_minimal v (segment_of (active (cond (n == 0) None (Some n)) offset, es)) × (length v ≤ 11 + (length t + length w))
  table_written zero l e t w offset es h g = let v = element_written (record { not_active = false; second = false; expressions = e }) t w (active None offset) es (offset, refl, h) g in (v.0, v.1, omega (arith, v.2))
  table_written (suc k) l e t w offset es h g =
      let index = unsigned_encoding (suc k) in
      let u = made_explicit e w es g in
      let v = element_written (record { not_active = false; second = true; expressions = e }) (index ++ t) u.0 (active (Some (suc k)) offset) es ((suc k, offset), refl, record { front = index; back = t; joined = refl; first = u32_encoded (suc k) l; second = h }) u.1 in
      let other : (suc k == 0) ≡ false = ne_eqb (suc k) 0 (λ z. omega (arith, z)) in
      (v.0, subst (λ b. element standard_minimal v.0 (segment_of (active (cond b None (Some (suc k))) offset, es))) (sym other) v.1, omega (arith, v.2, u.2, length-append index t, number_length (suc k) l))

  -- An element segment by the bits of its flag.
  by_bits : (a b e : Bool) (t w : List ℕ) (mode : SegmentMode (List Plain)) (es : ElementList (List Plain)) → length t < 2 ^ 26 → length w < 2 ^ 26 → segment_mode (record { not_active = a; second = b; expressions = e }) standard_minimal t mode → elements_as (cond a true b) e standard_minimal w es
      → (v : List ℕ) × element standard_minimal v (remapped_element m (segment_of (mode, es))) × (length v ≤ 11 + 32 * (length t + length w))
  by_bits true b e t w mode es l k h g =
      let modes : Maps (remapped_mode m) (segment_mode (record { not_active = true; second = b; expressions = e })) = when_maps b (fixed_maps [] declared refl) (fixed_maps [] passive refl) in
      let x = modes.form t mode l h in
      let y = (elements_maps true e).form w es k g in
      let v = element_written (record { not_active = true; second = b; expressions = e }) x.0 y.0 (remapped_mode m mode) (remapped_elements m es) x.1 y.1 in
      (v.0, v.1, omega (arith, v.2, x.2, y.2))
  by_bits false true e t w mode es l k h g =
      let modes : Maps (remapped_mode m) (segment_mode (record { not_active = false; second = true; expressions = e })) = mapped_maps in_table (λ p. (m spaces.Tables p.0, remapped_expression m p.1)) (λ p. refl) (pair_maps (index_maps m small spaces.Tables) (λ n. expression_maps m small)) in
      let x = modes.form t mode l h in
      let y = (elements_maps true e).form w es k g in
      let v = element_written (record { not_active = false; second = true; expressions = e }) x.0 y.0 (remapped_mode m mode) (remapped_elements m es) x.1 y.1 in
      (v.0, v.1, omega (arith, v.2, x.2, y.2))
  by_bits false false e t w mode es l k h g =
      let x = (expression_maps m small).form t h.0 l h.2 in
      let y = (elements_maps false e).form w es k g in
      let v = table_written (m spaces.Tables 0) (small spaces.Tables 0 (omega arith)) e x.0 y.0 (remapped_expression m h.0) (remapped_elements m es) x.1 y.1 in
      (v.0, subst (λ z. element standard_minimal v.0 (remapped_element m (segment_of (z, es)))) h.1 v.1, omega (arith, v.2, x.2, y.2))

  pub element_maps : Maps (remapped_element m) element
  element_maps = record {
    form = λ s x l h.
        let outer : length s ≡ length h.2.front + length h.2.back = ap length h.2.joined ∙ length-append h.2.front h.2.back in
        let k = h.2.second in
        let inner : length h.2.back ≡ length k.2.front + length k.2.back = ap length k.2.joined ∙ length-append k.2.front k.2.back in
        let f = h.0.0 in
        let a = by_bits f.not_active f.second f.expressions k.2.front k.2.back k.0.0 k.0.1 (omega (arith, l, outer, inner)) (omega (arith, l, outer, inner)) k.2.first k.2.second in
        (a.0, subst (λ z. element standard_minimal a.0 (remapped_element m z)) (k.1 ∙ h.1) a.1, omega (arith, a.2, outer, inner, some_groups h.2.front h.2.first.groups));
  }
