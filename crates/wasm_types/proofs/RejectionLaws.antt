-- This file proves that certain bytes are not a type section.
use Rattle.wasm_base.proofs.Words.{◌≡◌, ℕ, ◌<◌, List, [], ◌∷◌, ◌++◌, length, Bool, true, false, refl, sym, subst, ◌∙◌, append-nil, arith, counted_format, Format, u32, byte, tagged, vec, coded, Then}
use Rattle.wasm_base.proofs.Words.{RejectsAllAfterPadded, padded, Unambiguous, vec_u32_unambiguous, byte_unambiguous, vec_of_one, then_at, tagged_at, rejects_padded, one_item, u32_small}
use Rattle.wasm_base.proofs.Words.{tagged_encodes, inl, inr, ◌≢◌, builders, choice, choice_tags, impossible}
use Rattle.wasm_base.specs.declared.types.ValType.TheVariants.{I32}
use Rattle.wasm_types.specs.{Sub, TypeItem, mutable_code, storage_type, field_type, group_tags, type_item}
use Rattle.wasm_types.specs.declared.types.FieldType.{FieldType}
use Rattle.wasm_types.specs.declared.types.StorageType.TheVariants.{Val}
use Rattle.wasm_types.proofs.TypeLaws.{storage_unambiguous, after_in, types_section}
use Rattle.wasm_base.proofs.SectionLaws.{unambiguous}

-- ---- the suffix of a known front, up to the last byte

behind_byte : {X : Type 0} {G : ℕ → Format X} (b : ℕ) (rest : List ℕ) (x : X) → tagged byte G padded (b ∷ rest) x → G b padded rest x
behind_byte {G = G} b rest x h =
    let found = tagged_at {F = byte} {G = G} byte_unambiguous padded (b ∷ []) b refl rest (b ∷ rest) [] x (sym (append-nil (b ∷ rest))) h in
    subst (λ s. G b padded s x) (sym (found.1 ∙ append-nil found.0)) found.2

behind_first : {X Y : Type 0} {F : Format X} {G : Format Y} → Unambiguous F → (a : List ℕ) (x : X) → F padded a x → (rest : List ℕ) (p : X × Y) → Then F (λ x. G) padded (a ++ rest) p → G padded rest p.1
behind_first {F = F} {G = G} k a x known rest p h =
    let found = then_at {F = F} {G = λ x. G} k padded a x known rest (a ++ rest) [] p (sym (append-nil (a ++ rest))) h in
    subst (λ s. G padded s p.1) (sym (found.1 ∙ append-nil found.0)) found.2

-- ---- a structure whose field has the mutability 2

no_mutability : (m : Bool) → 2 ∷ [] ≡ mutable_code m ∷ [] → ⊥
no_mutability false e = let two : ◌≡◌ {A = ℕ} 2 0 = cc e in omega (arith, two)
no_mutability true e = let two : ◌≡◌ {A = ℕ} 2 1 = cc e in omega (arith, two)

number : storage_type padded (0x7F ∷ []) (Val I32)
number = inr (I32, refl, inl (tagged_encodes padded 0x7F [] I32 (refl, refl)))

no_field : (x : FieldType) → field_type padded (0x7F ∷ 0x02 ∷ []) x → ⊥
no_field x h = no_mutability h.0.1 (behind_first {F = storage_type} {G = coded mutable_code} storage_unambiguous (0x7F ∷ []) (Val I32) number (0x02 ∷ []) h.0 h.2)

-- An entry that begins with another byte than 4E is a subtype.
behind_entry : (b : ℕ) (rest : List ℕ) (x : TypeItem) → b ≢ 0x4E → type_item padded (b ∷ rest) x → (s : Sub) × after_in builders b padded rest s
behind_entry b rest x p (inl k) = absurd (p (choice_tags (λ c. c ≡ 0x4E) group_tags (λ c. impossible) (refl, tt) (λ c mode s y h. absurd h) b padded rest x (behind_byte {G = choice group_tags (λ c. impossible)} b rest x k)))
behind_entry b rest x p (inr k) = (k.0, behind_byte {G = after_in builders} b rest k.0 k.2)

no_structure : (x : TypeItem) → type_item padded (0x5F ∷ 0x01 ∷ 0x7F ∷ 0x02 ∷ []) x → ⊥
no_structure x h =
    let shape = behind_entry 0x5F (0x01 ∷ 0x7F ∷ 0x02 ∷ []) x (omega arith) h in
    let fields = shape.1.2.2.2.2 in
    let one = vec_of_one {F = field_type} padded (0x7F ∷ 0x02 ∷ []) fields.0 (u32_small padded 1 (omega arith)) fields.2 in
    no_field one.0 one.1

pub mutability_of_2 : RejectsAllAfterPadded (counted_format type_item) (5 ∷ 1 ∷ 95 ∷ 1 ∷ 127 ∷ 2 ∷ [])
mutability_of_2 =
    rejects_padded {F = counted_format type_item} (5 ∷ 1 ∷ 95 ∷ 1 ∷ 127 ∷ 2 ∷ []) (unambiguous types_section)
    (λ after rest xs h. let x = one_item {F = type_item} 5 (95 ∷ 1 ∷ 127 ∷ 2 ∷ []) after rest h.front xs (omega arith) refl h.split h.encodes in no_structure x.0 x.1)

-- ---- a group whose tag is padded

no_group : (x : TypeItem) → type_item padded (0xCE ∷ 0x00 ∷ 0x00 ∷ []) x → ⊥
no_group x h =
    let none = behind_entry 0xCE (0x00 ∷ 0x00 ∷ []) x (omega arith) h in
    absurd none.1.2.2.2.2

pub padded_group : RejectsAllAfterPadded (counted_format type_item) (4 ∷ 1 ∷ 206 ∷ 0 ∷ 0 ∷ [])
padded_group =
    rejects_padded {F = counted_format type_item} (4 ∷ 1 ∷ 206 ∷ 0 ∷ 0 ∷ []) (unambiguous types_section)
    (λ after rest xs h. let x = one_item {F = type_item} 4 (206 ∷ 0 ∷ 0 ∷ []) after rest h.front xs (omega arith) refl h.split h.encodes in no_group x.0 x.1)

-- ---- a final type that is encoded with an empty list of supertypes

no_indices : vec u32 padded (0 ∷ []) []
no_indices = record { front = 0 ∷ []; back = []; joined = refl; first = u32_small padded 0 (omega arith); second = refl }

no_final : (x : TypeItem) → type_item padded (0x4F ∷ 0x00 ∷ 0x5F ∷ 0x00 ∷ []) x → ⊥
no_final x h =
    let sub = behind_entry 0x4F (0x00 ∷ 0x5F ∷ 0x00 ∷ []) x (omega arith) h in
    let parts = sub.1.2.0 in
    let none = vec_u32_unambiguous.unique padded (0 ∷ []) parts.front (0x5F ∷ 0x00 ∷ []) parts.back [] sub.1.0.0 no_indices parts.first parts.joined in
    let some : 0 < length {A = ℕ} [] = subst (λ xs. 0 < length xs) (sym none.0) sub.1.2.1 in
    omega (arith, some)

pub no_supertypes : RejectsAllAfterPadded (counted_format type_item) (5 ∷ 1 ∷ 79 ∷ 0 ∷ 95 ∷ 0 ∷ [])
no_supertypes =
    rejects_padded {F = counted_format type_item} (5 ∷ 1 ∷ 79 ∷ 0 ∷ 95 ∷ 0 ∷ []) (unambiguous types_section)
    (λ after rest xs h. let x = one_item {F = type_item} 5 (79 ∷ 0 ∷ 95 ∷ 0 ∷ []) after rest h.front xs (omega arith) refl h.split h.encodes in no_final x.0 x.1)

pub ruleset nothing = (mutability_of_2, padded_group, no_supertypes)
