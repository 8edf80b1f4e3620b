-- This file proves how readers decode composite types.
use Rattle.wasm_base.proofs.Words.{Mode, ◌≡◌, ◌≢◌, ℕ, map, List, [], ◌∷◌, Option, Some, None, true, false, refl, sym, subst, map-id, Format, u32, byte, s33, mapped, pair, tagged, vec, Decodes}
use Rattle.wasm_base.proofs.Words.{Rejects, val_type, byte_unambiguous, u32_unambiguous, then_decodes, then_rejects_second, mapped_decodes, mapped_rejects, tagged_decodes, tagged_none, tagged_rejects}
use Rattle.wasm_base.proofs.Words.{no_choice}
use Rattle.wasm_base.specs.declared.types.ValType.{ValType}
use Rattle.wasm_types.specs.{Shape, func, array, structure, cont, Composite, field_type, func_of, shape_tags, after_shape, given_index, no_index, with_index, after_describes, composite_of}
use Rattle.wasm_types.specs.{after_composite, composite_type}
use Rattle.wasm_types.specs.declared.types.FieldType.{FieldType}
use Rattle.wasm_types.proofs.DecodeFields.{first_of_both, at_tag, not_tag, at_other, not_other}

-- ---- shapes

same_lists : {m : Mode} {X : Type 0} {F : Format (List X × List X)} {bytes rest : List ℕ} (xs ys : List X) → Decodes F m bytes (map (λ x. x) xs, map (λ y. y) ys) rest → Decodes F m bytes (xs, ys) rest
same_lists {m = m} {F = F} {bytes = bytes} {rest = rest} xs ys h = subst (λ zs. Decodes F m bytes (xs, zs) rest) (map-id ys) (subst (λ zs. Decodes F m bytes (zs, map (λ y. y) ys) rest) (map-id xs) h)

pub func_decodes : {m : Mode} (bytes rest : List ℕ) (b : ℕ) (ps rs : List ValType) → b ≡ 0x60 → Decodes (pair (vec val_type) (vec val_type)) m bytes (map (λ t. t) ps, map (λ t. t) rs) rest → Decodes (after_shape b) m bytes (func ps rs) rest
func_decodes bytes rest b ps rs e h = at_tag after_shape 0x60 e (mapped_decodes func_of (same_lists {F = pair (vec val_type) (vec val_type)} ps rs h))

pub func_none : {m : Mode} (bytes : List ℕ) (b : ℕ) → b ≡ 0x60 → Rejects (pair (vec val_type) (vec val_type)) m bytes → Rejects (after_shape b) m bytes
func_none bytes b e none = not_tag after_shape 0x60 e (mapped_rejects func_of none)

pub array_decodes : {m : Mode} (bytes rest : List ℕ) (b : ℕ) (field : FieldType) → b ≡ 0x5E → Decodes field_type m bytes field rest → Decodes (after_shape b) m bytes (array field) rest
array_decodes bytes rest b field e h = at_tag after_shape 0x5E e (mapped_decodes array h)

pub array_none : {m : Mode} (bytes : List ℕ) (b : ℕ) → b ≡ 0x5E → Rejects field_type m bytes → Rejects (after_shape b) m bytes
array_none bytes b e none = not_tag after_shape 0x5E e (mapped_rejects array none)

pub structure_decodes : {m : Mode} (bytes rest : List ℕ) (b : ℕ) (fields : List FieldType) → b ≡ 0x5F → Decodes (vec field_type) m bytes (map (λ f. f) fields) rest → Decodes (after_shape b) m bytes (structure fields) rest
structure_decodes {m = m} bytes rest b fields e h = at_tag after_shape 0x5F e (mapped_decodes structure (subst (λ fs. Decodes (vec field_type) m bytes fs rest) (map-id fields) h))

pub structure_none : {m : Mode} (bytes : List ℕ) (b : ℕ) → b ≡ 0x5F → Rejects (vec field_type) m bytes → Rejects (after_shape b) m bytes
structure_none bytes b e none = not_tag after_shape 0x5F e (mapped_rejects structure none)

pub cont_decodes : {m : Mode} (bytes rest : List ℕ) (b n : ℕ) → b ≡ 0x5D → Decodes s33 m bytes n rest → Decodes (after_shape b) m bytes (cont n) rest
cont_decodes bytes rest b n e h = at_tag after_shape 0x5D e (mapped_decodes cont h)

pub cont_none : {m : Mode} (bytes : List ℕ) (b : ℕ) → b ≡ 0x5D → Rejects s33 m bytes → Rejects (after_shape b) m bytes
cont_none bytes b e none = not_tag after_shape 0x5D e (mapped_rejects cont none)

pub shape_unknown : {m : Mode} (bytes : List ℕ) (b : ℕ) → b ≢ 0x60 → b ≢ 0x5E → b ≢ 0x5F → b ≢ 0x5D → Rejects (after_shape b) m bytes
shape_unknown bytes b p q r s = no_choice shape_tags b bytes (p, (q, (r, (s, tt))))

pub ruleset shape_steps = (func_decodes, func_none, array_decodes, array_none, structure_decodes, structure_none, cont_decodes, cont_none, shape_unknown)

-- ---- an optional index, then a value

module _ {X : Type 0} (tag : ℕ) (F : ℕ → Format X) (here : with_index tag F tag ≡ mapped given_index (pair u32 (tagged byte F))) where
  -- The index and the next byte, then the value that this byte selects.
  pub index_decodes : {m : Mode} {b n next : ℕ} {x : X} {bytes middle rest : List ℕ} → b ≡ tag → Decodes (pair u32 byte) m bytes (n, next) middle → Decodes (F next) m middle x rest → Decodes (with_index tag F b) m bytes (Some n, x) rest
  index_decodes {m = m} {n = n} {x = x} {bytes = bytes} {rest = rest} e h g =
      let parts = first_of_both h in
      at_tag (with_index tag F) tag e (subst (λ G. Decodes G m bytes (Some n, x) rest) (sym here) (mapped_decodes given_index (then_decodes parts.1 (tagged_decodes {G = F} parts.2 g))))

  pub index_none_after : {m : Mode} {b n next : ℕ} {bytes middle : List ℕ} → b ≡ tag → Decodes (pair u32 byte) m bytes (n, next) middle → Rejects (F next) m middle → Rejects (with_index tag F b) m bytes
  index_none_after {m = m} {bytes = bytes} e h none =
      let parts = first_of_both h in
      not_tag (with_index tag F) tag e (subst (λ G. Rejects G m bytes) (sym here) (mapped_rejects given_index (then_rejects_second u32_unambiguous parts.1 (tagged_rejects {G = F} byte_unambiguous parts.2 none))))

  pub index_none : {m : Mode} {b : ℕ} {bytes : List ℕ} → b ≡ tag → Rejects (pair u32 byte) m bytes → Rejects (with_index tag F b) m bytes
  index_none {m = m} {bytes = bytes} e none =
      not_tag (with_index tag F) tag e (subst (λ G. Rejects G m bytes) (sym here) (mapped_rejects given_index short))
    where
      short : Rejects (pair u32 (tagged byte F)) m bytes
      short = record {
        none = λ p last g.
            let parts = first_of_both g in
            let inner = first_of_both (record { front = parts.2.front; split = parts.2.split; encodes = parts.2.encodes.2 }) in
            none.none (p.0, parts.2.encodes.0.0) inner.0 (then_decodes parts.1 inner.1);
      }

  pub no_index_none : {m : Mode} {b : ℕ} {bytes : List ℕ} → b ≢ tag → Rejects (F b) m bytes → Rejects (with_index tag F b) m bytes
  no_index_none p none = not_other ((tag, mapped given_index (pair u32 (tagged byte F))) ∷ []) (λ c. mapped no_index (F c)) (p, tt) (mapped_rejects no_index none)

-- ---- composite types

abbrev not_shared : ℕ → Format Composite
not_shared c = mapped (composite_of false) (after_describes c)

abbrev shared_tags : List (ℕ × Format Composite)
shared_tags = (0x65, mapped (composite_of true) (tagged byte after_describes)) ∷ []

pub shared_decodes : {m : Mode} {b next : ℕ} {x : Option ℕ × (Option ℕ × Shape)} {bytes middle rest : List ℕ} → b ≡ 0x65 → Decodes byte m bytes next middle → Decodes (after_describes next) m middle x rest → Decodes (after_composite b) m bytes (composite_of true x) rest
shared_decodes e h g = at_tag after_composite 0x65 e (mapped_decodes (composite_of true) (tagged_decodes {G = after_describes} h g))

pub shared_none : {m : Mode} {b : ℕ} {bytes : List ℕ} → b ≡ 0x65 → Rejects byte m bytes → Rejects (after_composite b) m bytes
shared_none {bytes = bytes} e none = not_tag after_composite 0x65 e (mapped_rejects (composite_of true) (tagged_none byte after_describes bytes none))

pub shared_none_after : {m : Mode} {b next : ℕ} {bytes middle : List ℕ} → b ≡ 0x65 → Decodes byte m bytes next middle → Rejects (after_describes next) m middle → Rejects (after_composite b) m bytes
shared_none_after e h none = not_tag after_composite 0x65 e (mapped_rejects (composite_of true) (tagged_rejects {G = after_describes} byte_unambiguous h none))

pub unshared_decodes : {m : Mode} {b : ℕ} {x : Option ℕ × (Option ℕ × Shape)} {bytes rest : List ℕ} → b ≢ 0x65 → Decodes (after_describes b) m bytes x rest → Decodes (after_composite b) m bytes (composite_of false x) rest
unshared_decodes p h = at_other shared_tags not_shared (p, tt) (mapped_decodes (composite_of false) h)

pub unshared_none : {m : Mode} {b : ℕ} {bytes : List ℕ} → b ≢ 0x65 → Rejects (after_describes b) m bytes → Rejects (after_composite b) m bytes
unshared_none p none = not_other shared_tags not_shared (p, tt) (mapped_rejects (composite_of false) none)

pub composite_decodes : {m : Mode} {b : ℕ} {x : Composite} {bytes middle rest : List ℕ} → Decodes byte m bytes b middle → Decodes (after_composite b) m middle x rest → Decodes composite_type m bytes x rest
composite_decodes h g = tagged_decodes {G = after_composite} h g

pub composite_none : {m : Mode} (bytes : List ℕ) → Rejects byte m bytes → Rejects composite_type m bytes
composite_none bytes none = tagged_none byte after_composite bytes none

pub composite_none_after : {m : Mode} {b : ℕ} {bytes middle : List ℕ} → Decodes byte m bytes b middle → Rejects (after_composite b) m middle → Rejects composite_type m bytes
composite_none_after h none = tagged_rejects {G = after_composite} byte_unambiguous h none

pub ruleset index_steps = (refl)

pub ruleset composite_steps = (refl)
