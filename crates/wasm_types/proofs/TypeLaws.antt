-- This file proves that the entries of a type section are unambiguous and that their encodings
-- encode them.
use Rattle.wasm_base.proofs.Words.{◌≡◌, ◌≢◌, ◌⊎◌, inl, inr, ℕ, zero, suc, ◌<◌, List, [], ◌∷◌, ◌++◌, length, length-append, Bool, true, false, cond, eqb, Option, Some, None, refl, sym, ap, subst, ◌∙◌}
use Rattle.wasm_base.proofs.Words.{arith, pos, ne_eqb, ItemLaws, Grammar, builders, admitted, padded, standard_minimal, standard, Format, u32, byte, impossible, coded, mapped, pair, such, tagged}
use Rattle.wasm_base.proofs.Words.{choice, when, vec, IsUnsignedInRange, Mode, minimal, unsigned_encoding, signed_encoding, Unambiguous, DeterminesPrefix, IsIncludedIn, ShrinksTo, BeginsWith}
use Rattle.wasm_base.proofs.Words.{vec_encoding, IsEncodableVec, val_type, val_encoding, IsVal, IsValByte, val_begins, s33_unambiguous, vec_u32_unambiguous, DeterminesTag, AllValues}
use Rattle.wasm_base.proofs.Words.{mapped_unambiguous, such_unambiguous, coded_unambiguous, fixed_unambiguous, impossible_unambiguous, pair_unambiguous, tagged_unambiguous, vec_unambiguous}
use Rattle.wasm_base.proofs.Words.{byte_unambiguous, Then_unambiguous, by_mode_unambiguous, choice_unambiguous, choice_determines, choice_tags, u32_small, u32_unambiguous, pair_encodes, u32_encodes}
use Rattle.wasm_base.proofs.Words.{s33_encodes, vec_encodes, tagged_encodes, val_unambiguous, val-encodings, SectionLaws, counted_laws, begins_mapped, choice_begins, choice_of, none_in_common}
use Rattle.wasm_base.proofs.Words.{one_of_unambiguous, values_mapped, values_tagged}
use Rattle.wasm_base.specs.declared.types.ValType.{ValType}
use Rattle.wasm_types.specs.{Shape, func, array, structure, cont, Composite, Sub, TypeItem, single, group, storage_encoding, mutable_code, field_encoding, shape_encoding, index_encoding}
use Rattle.wasm_types.specs.{shared_encoding, composite_encoding, before_encoding, sub_encoding, type_encoding, IsStorage, IsField, IsShape, IsGivenIndex, IsComposite, IsSub, IsType, storage_tags}
use Rattle.wasm_types.specs.{packed_type, storage_type, field_of, field_type, func_of, shape_tags, after_shape, given_index, no_index, with_index, after_descriptor, after_describes, composite_of}
use Rattle.wasm_types.specs.{after_composite, composite_type, HasFinalPrefix, sub_of, alone_of, supertypes_and, sub_tags, after_alone, prefixed_sub, sub_type, group_tags, group_type, type_item}
use Rattle.wasm_types.specs.{type_items}
use Rattle.wasm_types.specs.declared.types.FieldType.{FieldType}
use Rattle.wasm_types.specs.declared.types.StorageType.{StorageType}
use Rattle.wasm_types.specs.declared.types.StorageType.TheVariants.{I8, I16, Val}

-- ---- one tag before other values

-- A format that its first byte determines is unambiguous.
by_tag_unambiguous : {X : Type 0} (tag : X → ℕ) {G : ℕ → Format X} → DeterminesTag G tag → ((b : ℕ) → Unambiguous (G b)) → Unambiguous (tagged byte G)
by_tag_unambiguous tag {G} tells all = tagged_unambiguous tag tells byte_unambiguous all

-- A byte other than the tag selects the format without it.
other_at : {X : Type 0} (tag : ℕ) (F : Format X) (G : ℕ → Format X) (b : ℕ) → b ≢ tag → (mode : Mode) (s : List ℕ) (x : X) → G b mode s x → choice ((tag, F) ∷ []) G b mode s x
other_at tag F G b differs mode s x h = rw (ne_eqb b tag differs) h

-- The same value, as a value of a larger format.
lifted : {X Y : Type 0} (P : ℕ → Type 0) (f : X → Y) {G : ℕ → Format X} {H : ℕ → Format Y} → ((b : ℕ) (mode : Mode) (s : List ℕ) (x : X) → G b mode s x → P b) → ((b : ℕ) → P b → (mode : Mode) (s : List ℕ) (x : X) → G b mode s x → H b mode s (f x))
    → (mode : Mode) (s : List ℕ) (x : X) → tagged byte G mode s x → tagged byte H mode s (f x)
lifted P f tags to mode s x h = (
  (h.0.0, f h.0.1),
  ap f h.1,
  record { front = h.2.front; back = h.2.back; joined = h.2.joined; first = h.2.first; second = to h.0.0 (tags h.0.0 mode h.2.back h.0.1 h.2.second) mode h.2.back h.0.1 h.2.second },
)

-- ---- storage and field types

-- The byte of a packed type, and 0 for a value type.
abbrev packed_tag : StorageType → ℕ
packed_tag I8 = 0x78
packed_tag I16 = 0x77
packed_tag (Val ty) = 0

-- The bytes of packed types.
abbrev IsPackedByte : ℕ → Type 0
IsPackedByte b = (0x76 < b) × (b < 0x79)

packed_unambiguous : Unambiguous packed_type
packed_unambiguous =
    choice_of byte packed_tag storage_tags byte_unambiguous (fixed_unambiguous [] I8, (fixed_unambiguous [] I16, tt))
    (λ mode s x h. ap packed_tag (sym h.1), (λ mode s x h. ap packed_tag (sym h.1), tt))

packed_begins : BeginsWith IsPackedByte packed_type
packed_begins = choice_begins IsPackedByte storage_tags (λ b. impossible) ((omega arith, omega arith), ((omega arith, omega arith), tt)) (λ b mode s x h. absurd h)

packed_apart : (b : ℕ) → IsPackedByte b → IsValByte b → ⊥
packed_apart b p (inl q) = omega (arith, p.1, q.0)
packed_apart b p (inr q) = omega (arith, p.0, q.1)

packed_values : AllValues (λ x. 0 < packed_tag x) packed_type
packed_values =
    values_tagged (λ x. 0 < packed_tag x) storage_tags
    (λ mode s x h. subst (λ z. 0 < packed_tag z) (sym h.1) (omega arith), (λ mode s x h. subst (λ z. 0 < packed_tag z) (sym h.1) (omega arith), tt))

pub storage_unambiguous : Unambiguous storage_type
storage_unambiguous =
    one_of_unambiguous IsPackedByte IsValByte packed_apart packed_begins (begins_mapped IsValByte Val val_begins)
    (none_in_common (λ x. 0 < packed_tag x) (λ x. packed_tag x ≡ 0) (λ x p q. omega (arith, p, q)) packed_values (values_mapped (λ x. packed_tag x ≡ 0) Val val_type (λ x. refl)))
    packed_unambiguous (mapped_unambiguous Val (λ x y e. cc) val_unambiguous)

mutable_decode : ℕ → Bool
mutable_decode zero = false
mutable_decode (suc n) = true

mutable_back : (mutable : Bool) → mutable_decode (mutable_code mutable) ≡ mutable
unfolding mutable_decode
mutable_back false = refl
mutable_back true = refl

pub mutable_unambiguous : Unambiguous (coded mutable_code)
mutable_unambiguous = coded_unambiguous mutable_code mutable_decode mutable_back

pub field_unambiguous : Unambiguous field_type
field_unambiguous = mapped_unambiguous field_of (λ x y e. ap (λ f. (f.element_type, f.mutable)) e) (pair_unambiguous storage_unambiguous mutable_unambiguous)

-- ---- shapes

abbrev shape_tag : Shape → ℕ
shape_tag (func params results) = 0x60
shape_tag (array field) = 0x5E
shape_tag (structure fields) = 0x5F
shape_tag (cont index) = 0x5D

shape_determines : DeterminesTag after_shape shape_tag
shape_determines =
    choice_determines shape_tag shape_tags (λ b. impossible)
    (λ mode s x h. ap shape_tag h.1, (λ mode s x h. ap shape_tag h.1, (λ mode s x h. ap shape_tag h.1, (λ mode s x h. ap shape_tag h.1, tt))))
    (λ b mode s x h. absurd h)

abbrev func_parts : Shape → List ValType × List ValType
func_parts (func params results) = (params, results)
func_parts _ = ([], [])

shape_after_unambiguous : (b : ℕ) → Unambiguous (after_shape b)
shape_after_unambiguous =
    choice_unambiguous shape_tags (λ b. impossible) (
      mapped_unambiguous func_of (λ x y e. ap func_parts e) (pair_unambiguous (vec_unambiguous val_unambiguous) (vec_unambiguous val_unambiguous)),
      (mapped_unambiguous array (λ x y e. cc) field_unambiguous, (mapped_unambiguous structure (λ x y e. cc) (vec_unambiguous field_unambiguous), (mapped_unambiguous cont (λ x y e. cc) s33_unambiguous, tt))),
    )
    (λ b. impossible_unambiguous)

-- ---- optional indices

abbrev one_tag : ℕ → Option ℕ → ℕ → ℕ
one_tag tag (Some index) other = tag
one_tag tag None other = other

abbrev index_tag : {X : Type 0} → ℕ → (X → ℕ) → Option ℕ × X → ℕ
index_tag tag tags p = one_tag tag p.0 (tags p.1)

index_determines : {X : Type 0} (tag : ℕ) (tags : X → ℕ) (F : ℕ → Format X) → DeterminesTag F tags → DeterminesTag (with_index tag F) (index_tag tag tags)
index_determines tag tags F tells =
    choice_determines (index_tag tag tags) ((tag, mapped given_index (pair u32 (tagged byte F))) ∷ []) (λ c. mapped no_index (F c))
    (λ mode s x h. ap (index_tag tag tags) h.1, tt)
    (λ b mode s x h. tells mode b s h.0 h.2 ∙ ap (index_tag tag tags) h.1)

index_of : {X : Type 0} → Option ℕ × X → ℕ
index_of p = elim p.0 [ Some index ↦ index | None ↦ 0 ]

index_of-some : {X : Type 0} (index : ℕ) (x : X) → index_of (Some index, x) ≡ index
unfolding index_of
index_of-some index x = refl

given_same : {X : Type 0} (p q : ℕ × X) → given_index p ≡ given_index q → p ≡ q
given_same p q e =
    let a : p.0 ≡ q.0 = sym (index_of-some p.0 p.1) ∙ ap index_of e ∙ index_of-some q.0 q.1 in
    λ i. (a i, (e i).1)

index_unambiguous : {X : Type 0} (tag : ℕ) (F : ℕ → Format X) → Unambiguous (tagged byte F) → ((b : ℕ) → Unambiguous (F b)) → (b : ℕ) → Unambiguous (with_index tag F b)
index_unambiguous tag F whole all =
    choice_unambiguous ((tag, mapped given_index (pair u32 (tagged byte F))) ∷ []) (λ c. mapped no_index (F c))
    (mapped_unambiguous given_index given_same (pair_unambiguous u32_unambiguous whole), tt)
    (λ b. mapped_unambiguous no_index (λ x y e. ap (λ p. p.1) e) (all b))

-- ---- composite types

abbrev descriptor_tag : Option ℕ × Shape → ℕ
descriptor_tag p = index_tag 0x4D shape_tag p

abbrev describes_tag : Option ℕ × (Option ℕ × Shape) → ℕ
describes_tag p = index_tag 0x4C descriptor_tag p

descriptor_determines : DeterminesTag after_descriptor descriptor_tag
descriptor_determines = index_determines 0x4D shape_tag after_shape shape_determines

describes_determines : DeterminesTag after_describes describes_tag
describes_determines = index_determines 0x4C descriptor_tag after_descriptor descriptor_determines

descriptor_after_unambiguous : (b : ℕ) → Unambiguous (after_descriptor b)
descriptor_after_unambiguous = index_unambiguous 0x4D after_shape (by_tag_unambiguous shape_tag shape_determines shape_after_unambiguous) shape_after_unambiguous

describes_after_unambiguous : (b : ℕ) → Unambiguous (after_describes b)
describes_after_unambiguous = index_unambiguous 0x4C after_descriptor (by_tag_unambiguous descriptor_tag descriptor_determines descriptor_after_unambiguous) descriptor_after_unambiguous

abbrev composite_parts : Composite → Option ℕ × (Option ℕ × Shape)
composite_parts c = (c.describes, (c.descriptor, c.shape))

abbrev composite_tag : Composite → ℕ
composite_tag c = cond c.shared 0x65 (describes_tag (composite_parts c))

abbrev shared_tags : List (ℕ × Format Composite)
shared_tags = (0x65, mapped (composite_of true) (tagged byte after_describes)) ∷ []

abbrev not_shared : ℕ → Format Composite
not_shared c = mapped (composite_of false) (after_describes c)

composite_determines : DeterminesTag after_composite composite_tag
composite_determines =
    choice_determines composite_tag shared_tags not_shared
    (λ mode s x h. ap composite_tag h.1, tt)
    (λ b mode s x h. describes_determines mode b s h.0 h.2 ∙ ap composite_tag h.1)

composite_after_unambiguous : (b : ℕ) → Unambiguous (after_composite b)
composite_after_unambiguous =
    choice_unambiguous shared_tags not_shared
    (mapped_unambiguous (composite_of true) (λ x y e. ap composite_parts e) (by_tag_unambiguous describes_tag describes_determines describes_after_unambiguous), tt)
    (λ b. mapped_unambiguous (composite_of false) (λ x y e. ap composite_parts e) (describes_after_unambiguous b))

pub composite_unambiguous : Unambiguous composite_type
composite_unambiguous = by_tag_unambiguous composite_tag composite_determines composite_after_unambiguous

-- ---- encodings of composite types

storage_encodes : (t : StorageType) → IsStorage t → storage_type minimal (storage_encoding t) t
storage_encodes I8 p = inl (tagged_encodes minimal 0x78 [] I8 (refl, refl))
storage_encodes I16 p = inl (tagged_encodes minimal 0x77 [] I16 (refl, refl))
storage_encodes (Val ty) p = inr (ty, refl, val-encodings.encodes ty p)

field_encodes : (f : FieldType) → IsField f → field_type minimal (field_encoding f) f
field_encodes f p =
    ((f.element_type, f.mutable), refl, pair_encodes storage_type (coded mutable_code) (storage_encoding f.element_type) (mutable_code f.mutable ∷ []) f.element_type f.mutable (storage_encodes f.element_type p) refl)

vals_encodes : (tys : List ValType) → IsEncodableVec IsVal tys → vec val_type minimal (vec_encoding val_encoding tys) tys
vals_encodes tys encodable = vec_encodes val_type IsVal val_encoding val-encodings.encodes tys encodable

shape_encodes : (x : Shape) → IsShape x → tagged byte after_shape minimal (shape_encoding x) x
shape_encodes (func params results) p =
    tagged_encodes {G = after_shape} minimal 0x60 (vec_encoding val_encoding params ++ vec_encoding val_encoding results) (func params results)
    ((params, results), refl, pair_encodes (vec val_type) (vec val_type) (vec_encoding val_encoding params) (vec_encoding val_encoding results) params results (vals_encodes params p.0) (vals_encodes results p.1))
shape_encodes (array field) p = tagged_encodes {G = after_shape} minimal 0x5E (field_encoding field) (array field) (field, refl, field_encodes field p)
shape_encodes (structure fields) p = tagged_encodes {G = after_shape} minimal 0x5F (vec_encoding field_encoding fields) (structure fields) (fields, refl, vec_encodes field_type IsField field_encoding field_encodes fields p)
shape_encodes (cont index) p = tagged_encodes {G = after_shape} minimal 0x5D (signed_encoding (pos index)) (cont index) (index, refl, s33_encodes index p)

-- The first bytes of shapes.
abbrev IsShapeByte : ℕ → Type 0
IsShapeByte b = (0x5C < b) × (b < 0x61)

-- The first bytes of composite types, which begin no other entry.
abbrev IsCompositeByte : ℕ → Type 0
IsCompositeByte b = (b ≢ 0x4E) × (b ≢ 0x4F) × (b ≢ 0x50)

-- The same if they are not shared.
abbrev IsUnsharedByte : ℕ → Type 0
IsUnsharedByte b = IsCompositeByte b × (b ≢ 0x65)

-- The same if they describe no type.
abbrev IsDescriptorByte : ℕ → Type 0
IsDescriptorByte b = IsUnsharedByte b × (b ≢ 0x4C)

shape_bytes : (b : ℕ) (mode : Mode) (s : List ℕ) (x : Shape) → after_shape b mode s x → IsShapeByte b
shape_bytes = choice_tags IsShapeByte shape_tags (λ b. impossible) ((omega arith, omega arith), ((omega arith, omega arith), ((omega arith, omega arith), ((omega arith, omega arith), tt)))) (λ b mode s x h. absurd h)

index_bytes : {X : Type 0} (P : ℕ → Type 0) (tag : ℕ) (F : ℕ → Format X) → P tag → ((b : ℕ) (mode : Mode) (s : List ℕ) (x : X) → F b mode s x → P b) → (b : ℕ) (mode : Mode) (s : List ℕ) (x : Option ℕ × X) → with_index tag F b mode s x → P b
index_bytes P tag F here rest = choice_tags P ((tag, mapped given_index (pair u32 (tagged byte F))) ∷ []) (λ c. mapped no_index (F c)) (here, tt) (λ b mode s x h. rest b mode s h.0 h.2)

descriptor_bytes : (b : ℕ) (mode : Mode) (s : List ℕ) (x : Option ℕ × Shape) → after_descriptor b mode s x → IsDescriptorByte b
descriptor_bytes =
    index_bytes IsDescriptorByte 0x4D after_shape (((omega arith, omega arith, omega arith), omega arith), omega arith)
    (λ b mode s x h. let p = shape_bytes b mode s x h in (((omega (arith, p.0), omega (arith, p.0), omega (arith, p.0)), omega (arith, p.1)), omega (arith, p.0)))

describes_bytes : (b : ℕ) (mode : Mode) (s : List ℕ) (x : Option ℕ × (Option ℕ × Shape)) → after_describes b mode s x → IsUnsharedByte b
describes_bytes =
    index_bytes IsUnsharedByte 0x4C after_descriptor ((omega arith, omega arith, omega arith), omega arith)
    (λ b mode s x h. (descriptor_bytes b mode s x h).0)

composite_bytes : (b : ℕ) (mode : Mode) (s : List ℕ) (x : Composite) → after_composite b mode s x → IsCompositeByte b
composite_bytes = choice_tags IsCompositeByte shared_tags not_shared ((omega arith, omega arith, omega arith), tt) (λ b mode s x h. (describes_bytes b mode s h.0 h.2).0)

-- A value with an optional index before it.
index_encodes : {X : Type 0} (P : ℕ → Type 0) (tag : ℕ) (F : ℕ → Format X) → ((b : ℕ) (mode : Mode) (s : List ℕ) (x : X) → F b mode s x → P b) → ((b : ℕ) → P b → b ≢ tag)
    → ((s : List ℕ) (p : Option ℕ × X) → mapped given_index (pair u32 (tagged byte F)) minimal s p → with_index tag F tag minimal s p)
    → (index : Option ℕ) (s : List ℕ) (x : X) → IsGivenIndex index → tagged byte F minimal s x → tagged byte (with_index tag F) minimal (index_encoding tag index ++ s) (index, x)
index_encodes P tag F bytes apart here None s x range h =
    lifted P no_index {G = F} {H = with_index tag F} bytes (λ b p mode s x h. other_at tag (mapped given_index (pair u32 (tagged byte F))) (λ c. mapped no_index (F c)) b (apart b p) mode s (no_index x) (x, refl, h)) minimal s x h
index_encodes P tag F bytes apart here (Some index) s x range h =
    tagged_encodes {G = with_index tag F} minimal tag (unsigned_encoding index ++ s) (Some index, x)
    (here (unsigned_encoding index ++ s) (Some index, x) ((index, x), refl, pair_encodes u32 (tagged byte F) (unsigned_encoding index) s index x (u32_encodes index range) h))

unshared_encodes : (c : Composite) → IsComposite c → tagged byte after_describes minimal (index_encoding 0x4C c.describes ++ (index_encoding 0x4D c.descriptor ++ shape_encoding c.shape)) (composite_parts c)
unshared_encodes c p =
    index_encodes IsDescriptorByte 0x4C after_descriptor descriptor_bytes (λ b q. q.1) (λ s x h. h) c.describes (index_encoding 0x4D c.descriptor ++ shape_encoding c.shape) (c.descriptor, c.shape) p.describes
    (index_encodes IsShapeByte 0x4D after_shape shape_bytes (λ b q e. omega (arith, q.0, e)) (λ s x h. h) c.descriptor (shape_encoding c.shape) c.shape p.descriptor (shape_encodes c.shape p.shape))

shared_encodes : (shared : Bool) (parts : Option ℕ × (Option ℕ × Shape)) (s : List ℕ) → tagged byte after_describes minimal s parts → composite_type minimal (shared_encoding shared ++ s) (composite_of shared parts)
shared_encodes true parts s h = tagged_encodes {G = after_composite} minimal 0x65 s (composite_of true parts) (parts, refl, h)
shared_encodes false parts s h =
    lifted IsUnsharedByte (composite_of false) {G = after_describes} {H = after_composite} describes_bytes
    (λ b p mode s x h. other_at 0x65 (mapped (composite_of true) (tagged byte after_describes)) not_shared b p.1 mode s (composite_of false x) (x, refl, h)) minimal s parts h

pub composite_encodes : (c : Composite) → IsComposite c → composite_type minimal (composite_encoding c) c
composite_encodes c p = shared_encodes c.shared (composite_parts c) (index_encoding 0x4C c.describes ++ (index_encoding 0x4D c.descriptor ++ shape_encoding c.shape)) (unshared_encodes c p)

-- ---- subtypes

abbrev before_tag : Bool → List ℕ → ℕ → ℕ
before_tag true [] tag = tag
before_tag true (x ∷ xs) tag = 0x4F
before_tag false xs tag = 0x50

abbrev sub_tag : Sub → ℕ
sub_tag s = before_tag s.is_final s.supertypes (composite_tag s.composite)

abbrev pub after_in : Grammar → ℕ → Format Sub
after_in w b = choice (sub_tags w) after_alone b

final_tag : (xs : List ℕ) (tag : ℕ) → 0 < length xs → 0x4F ≡ before_tag true xs tag
final_tag [] tag h = absurd (omega (arith, h))
final_tag (x ∷ xs) tag h = refl

sub_determines : DeterminesTag (after_in builders) sub_tag
sub_determines =
    choice_determines sub_tag (sub_tags builders) after_alone
    (λ mode s x h. ap sub_tag h.1, (λ mode s x h. final_tag h.0.0 (composite_tag h.0.1) h.2.1 ∙ ap sub_tag h.1, tt))
    (λ b mode s x h. composite_determines mode b s h.0 h.2 ∙ ap sub_tag h.1)

abbrev sub_parts : Sub → List ℕ × Composite
sub_parts s = (s.supertypes, s.composite)

sub_after_unambiguous : (w : Grammar) (b : ℕ) → Unambiguous (after_in w b)
sub_after_unambiguous w =
    let both = pair_unambiguous vec_u32_unambiguous composite_unambiguous in
    choice_unambiguous (sub_tags w) after_alone
    (mapped_unambiguous (sub_of false) (λ x y e. ap sub_parts e) both, (mapped_unambiguous (sub_of true) (λ x y e. ap sub_parts e) (such_unambiguous (HasFinalPrefix w) both), tt))
    (λ b. mapped_unambiguous alone_of (λ x y e. ap (λ s. s.composite) e) (composite_after_unambiguous b))

built_unambiguous : Unambiguous (prefixed_sub builders)
built_unambiguous = by_tag_unambiguous sub_tag sub_determines (sub_after_unambiguous builders)

-- The tag of a final type without supertypes is not determined in the standard's grammar, but the
-- tag and the value together are.
admitted_unique : DeterminesPrefix (prefixed_sub admitted standard)
admitted_unique s t r q x y h g e =
    let a = (Then_unambiguous byte_unambiguous (sub_after_unambiguous admitted)).unique standard s t r q h.0 g.0 h.2 g.2 e in
    (sym h.1 ∙ ap (λ p. p.1) a.0 ∙ g.1, a.1, a.2)

-- The same subtypes, tag by tag.
widened : (b : ℕ) (t : List ℕ) (x : Sub) → after_in builders b standard t x → after_in admitted b standard t x
widened b t x h = go (eqb b 0x50) (eqb b 0x4F) h
  where
    go : (opened final : Bool) → when opened (mapped (sub_of false) supertypes_and) (when final (mapped (sub_of true) (such (HasFinalPrefix builders) supertypes_and)) (after_alone b)) standard t x
        → when opened (mapped (sub_of false) supertypes_and) (when final (mapped (sub_of true) (such (HasFinalPrefix admitted) supertypes_and)) (after_alone b)) standard t x
    go true final k = k
    go false true k = (k.0, k.1, (k.2.0, tt))
    go false false k = k

built_admitted : IsIncludedIn (prefixed_sub builders standard) (prefixed_sub admitted standard)
built_admitted s x h = (h.0, h.1, record { front = h.2.front; back = h.2.back; joined = h.2.joined; first = h.2.first; second = widened h.0.0 h.2.back h.0.1 h.2.second })

at_sub : (b : ℕ) → IsCompositeByte b → (mode : Mode) (s : List ℕ) (x : Composite) → after_composite b mode s x → after_in builders b mode s (alone_of x)
at_sub b p mode s x h = rw (ne_eqb b 0x50 p.2, ne_eqb b 0x4F p.1) (x, refl, h)

-- A composite type alone.
pub alone_encodes : (mode : Mode) (s : List ℕ) (c : Composite) → composite_type mode s c → prefixed_sub builders mode s (alone_of c)
alone_encodes mode s c h = lifted IsCompositeByte alone_of {G = after_composite} {H = after_in builders} composite_bytes at_sub mode s c h

-- The bytes end with an encoding of the composite type, which the subtype is alone.
abbrev EndsAlone : List ℕ → Sub → Type 0
EndsAlone t x = (c : Composite) × (front back : List ℕ) × (t ≡ front ++ back) × composite_type standard back c × (alone_of c ≡ x)

-- A subtype of the standard's grammar is one that builders write, or has an empty vector after
-- 0x4F.
narrowed : (b : ℕ) (t : List ℕ) (x : Sub) → after_in admitted b standard t x → after_in builders b standard t x ⊎ EndsAlone t x
narrowed b t x h = go (eqb b 0x50) (eqb b 0x4F) h
  where
    listed : (xs : List ℕ) (c : Composite) → sub_of true (xs, c) ≡ x → supertypes_and standard t (xs, c) → mapped (sub_of true) (such (HasFinalPrefix builders) supertypes_and) standard t x ⊎ EndsAlone t x
    listed [] c e k = inr (c, k.front, k.back, k.joined, k.second, e)
    listed (y ∷ ys) c e k = inl ((y ∷ ys, c), e, (k, omega arith))

    go : (opened final : Bool) → when opened (mapped (sub_of false) supertypes_and) (when final (mapped (sub_of true) (such (HasFinalPrefix admitted) supertypes_and)) (after_alone b)) standard t x
        → when opened (mapped (sub_of false) supertypes_and) (when final (mapped (sub_of true) (such (HasFinalPrefix builders) supertypes_and)) (after_alone b)) standard t x ⊎ EndsAlone t x
    go true final k = inl k
    go false true k = listed k.0.0 k.0.1 k.1 k.2.0
    go false false k = inl k

sub_shrinks : ShrinksTo (prefixed_sub admitted standard) (prefixed_sub builders standard_minimal)
sub_shrinks s x h =
    elim (narrowed h.0.0 h.2.back h.0.1 h.2.second) [
      | inl k ↦ built_unambiguous.encodings.shorter admitted s x (h.0, h.1, record { front = h.2.front; back = h.2.back; joined = h.2.joined; first = h.2.first; second = k })
      | inr k ↦
          let a = composite_unambiguous.encodings.shorter admitted k.2 k.0 k.4 in
          (a.0, subst (λ z. prefixed_sub builders standard_minimal a.0 z) (k.5 ∙ h.1) (alone_encodes standard_minimal a.0 k.0 a.1), omega (arith, a.2, ap length h.2.joined, ap length k.3, length-append h.2.front h.2.back, length-append k.1 k.2))
    ]

pub sub_unambiguous : Unambiguous sub_type
sub_unambiguous =
    by_mode_unambiguous (prefixed_sub builders) (prefixed_sub builders) (prefixed_sub admitted) built_unambiguous built_unambiguous admitted_unique
    (λ s x h. built_admitted s x (built_unambiguous.encodings.included padded standard tt s x h))
    (λ s x h. built_admitted s x (built_unambiguous.encodings.included standard_minimal standard tt s x h))
    sub_shrinks

-- A final type with an empty vector of supertypes.
pub empty_list : (bytes : List ℕ) (c : Composite) → composite_type standard bytes c → sub_type standard (0x4F ∷ 0x00 ∷ bytes) (alone_of c)
empty_list bytes c h =
    tagged_encodes {G = after_in admitted} standard 0x4F (0x00 ∷ bytes) (alone_of c)
    (([], c), refl, (record { front = 0 ∷ []; back = bytes; joined = refl; first = record { front = 0 ∷ []; back = []; joined = refl; first = u32_small standard 0 (omega arith); second = refl }; second = h }, tt))

-- The first bytes of subtypes, which begin no recursion group.
abbrev pub IsSubByte : ℕ → Type 0
IsSubByte b = b ≢ 0x4E

prefixed_begins : (w : Grammar) → BeginsWith IsSubByte (prefixed_sub w)
prefixed_begins w = choice_begins IsSubByte (sub_tags w) after_alone (omega arith, (omega arith, tt)) (λ b mode s x h. (composite_bytes b mode s h.0 h.2).0)

pub sub_begins : BeginsWith IsSubByte sub_type
sub_begins minimal = prefixed_begins builders minimal
sub_begins padded = prefixed_begins builders padded
sub_begins standard_minimal = prefixed_begins builders standard_minimal
sub_begins standard = prefixed_begins admitted standard

supertypes_encodes : (xs : List ℕ) (c : Composite) → IsEncodableVec (IsUnsignedInRange 32) xs → IsComposite c → supertypes_and minimal (vec_encoding unsigned_encoding xs ++ composite_encoding c) (xs, c)
supertypes_encodes xs c encodable p = pair_encodes (vec u32) composite_type (vec_encoding unsigned_encoding xs) (composite_encoding c) xs c (vec_encodes u32 (IsUnsignedInRange 32) unsigned_encoding u32_encodes xs encodable) (composite_encodes c p)

before_encodes : (is_final : Bool) (xs : List ℕ) (c : Composite) → IsEncodableVec (IsUnsignedInRange 32) xs → IsComposite c → sub_type minimal (before_encoding is_final xs ++ composite_encoding c) (sub_of is_final (xs, c))
before_encodes true [] c encodable p = alone_encodes minimal (composite_encoding c) c (composite_encodes c p)
before_encodes true (x ∷ xs) c encodable p =
    tagged_encodes {G = after_in builders} minimal 0x4F (vec_encoding unsigned_encoding (x ∷ xs) ++ composite_encoding c) (sub_of true (x ∷ xs, c)) ((x ∷ xs, c), refl, (supertypes_encodes (x ∷ xs) c encodable p, omega arith))
before_encodes false xs c encodable p =
    tagged_encodes {G = after_in builders} minimal 0x50 (vec_encoding unsigned_encoding xs ++ composite_encoding c) (sub_of false (xs, c)) ((xs, c), refl, supertypes_encodes xs c encodable p)

pub sub_encodes : (s : Sub) → IsSub s → sub_type minimal (sub_encoding s) s
sub_encodes s p = before_encodes s.is_final s.supertypes s.composite p.supertypes p.composite

-- ---- entries

group_unambiguous : Unambiguous group_type
group_unambiguous = choice_of byte (λ x. 0x4E) group_tags byte_unambiguous (mapped_unambiguous group (λ x y e. cc) (vec_unambiguous sub_unambiguous), tt) (λ mode s x h. refl, tt)

abbrev IsGroupByte : ℕ → Type 0
IsGroupByte b = b ≡ 0x4E

group_begins : BeginsWith IsGroupByte group_type
group_begins = choice_begins IsGroupByte group_tags (λ b. impossible) (refl, tt) (λ b mode s x h. absurd h)

abbrev group_form : TypeItem → ℕ
group_form (single s) = 0
group_form (group subs) = 1

pub type_unambiguous : Unambiguous type_item
type_unambiguous =
    one_of_unambiguous IsGroupByte IsSubByte (λ b p q. q p) group_begins (begins_mapped IsSubByte single sub_begins)
    (none_in_common (λ x. group_form x ≡ 1) (λ x. group_form x ≡ 0) (λ x p q. omega (arith, p, q))
    (values_tagged (λ x. group_form x ≡ 1) group_tags (values_mapped (λ x. group_form x ≡ 1) group (vec sub_type) (λ x. refl), tt))
    (values_mapped (λ x. group_form x ≡ 0) single sub_type (λ x. refl)))
    group_unambiguous (mapped_unambiguous single (λ x y e. cc) sub_unambiguous)

pub type_encodes : (t : TypeItem) → IsType t → type_item minimal (type_encoding t) t
type_encodes (single s) p = inr (s, refl, sub_encodes s p)
type_encodes (group subs) p = inl (tagged_encodes minimal 0x4E (vec_encoding sub_encoding subs) (group subs) (subs, refl, vec_encodes sub_type IsSub sub_encoding sub_encodes subs p))

pub type_laws : ItemLaws type_items
type_laws = record { unique = type_unambiguous; encodes = λ t plain encodable. type_encodes t plain }

pub types_section : SectionLaws type_items (vec type_item)
types_section = counted_laws type_laws (λ given plain. plain) (λ given plain. plain)

pub ruleset sections = (types_section)

pub ruleset parts = (type_unambiguous, sub_unambiguous, composite_unambiguous, field_unambiguous, storage_unambiguous)
