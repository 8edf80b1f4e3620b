-- This file proves that decoded types are well-formed, so that their encoding is the minimal one.
use Rattle.wasm_base.proofs.Words.{◌≡◌, ◌≢◌, ℕ, ◌^◌, ◌<◌, List, [], ◌∷◌, ◌++◌, length, map, Bool, true, false, Option, Result, Ok, Err, refl, sym, ap, ap₂, subst, eqb, arith, flat_map, All, ints}
use Rattle.wasm_base.proofs.Words.{length-map, All-nil, All-cons, All-head, All-tail, Mode, Grammar, builders, admitted, minimal, padded, standard_minimal, standard, unsigned_encoding, Format, u32}
use Rattle.wasm_base.proofs.Words.{s33, byte, choice, impossible, mapped, pair, tagged, vec, when, IsUnsignedInRange, vec_encoding, IsEncodableVec, IsVal, val_type, AllValues, AllChoices}
use Rattle.wasm_base.proofs.Words.{values_one_of, values_tagged, on_ok, Appends, OnOk, AppendsMinimal, built_encoding, builders_alone, padded_of, HasEncoding, val_type_is, vec_is, records_appended}
use Rattle.wasm_base.specs.declared.refused.Refused.{Refused}
use Rattle.std.specs.declared.vec.Vec.{Vec}
use Rattle.wasm_types.specs.{Shape, func, array, structure, cont, Composite, before_encoding, sub_encoding, type_encoding, IsStorage, IsField, IsShape, IsGivenIndex, IsComposite, IsSub, IsType}
use Rattle.wasm_types.specs.{storage_tags, storage_type, field_type, shape_tags, after_shape, with_index, given_index, no_index, after_descriptor, after_describes, composite_of, after_composite}
use Rattle.wasm_types.specs.{composite_type, sub_tags, after_alone, prefixed_sub, sub_type, group_tags, type_item, IsEncodableShape, shape_in, sub_view, entry_view, entry_encoding, IsEncodableSubItem}
use Rattle.wasm_types.specs.{IsEncodableEntry}
use Rattle.wasm_types.proofs.TypeLaws.{after_in, type_encodes}
use Rattle.wasm_types.specs.declared.items.SubItem.{SubItem}
use Rattle.wasm_types.specs.declared.items.TypeEntry.{TypeEntry}
use Rattle.wasm_types.specs.declared.items.TypeEntry.TheVariants as entries

values_choice : {X : Type 0} (Q : X → Type 0) (cs : List (ℕ × Format X)) (other : ℕ → Format X) → AllChoices Q cs → ((b : ℕ) → AllValues Q (other b)) → (b : ℕ) → AllValues Q (choice cs other b)
values_choice Q [] other h g b mode s x k = g b mode s x k
values_choice {X} Q (c ∷ cs) other h g b mode s x k = go (values_choice Q cs other h.1 g b mode s x) (eqb b c.0) k
  where
    go : (choice cs other b mode s x → Q x) → (test : Bool) → when test c.1 (choice cs other b) mode s x → Q x
    go more true k = h.0 mode s x k
    go more false k = more k

tagged_values : {X : Type 0} (Q : X → Type 0) (G : ℕ → Format X) → ((b : ℕ) → AllValues Q (G b)) → AllValues Q (tagged byte G)
tagged_values Q G all mode s x h = subst Q h.1 (all h.0.0 mode h.2.back h.0.1 h.2.second)

pub storage_is : AllValues IsStorage storage_type
storage_is =
    values_one_of IsStorage (values_tagged IsStorage storage_tags (λ mode s x h. subst IsStorage (sym h.1) tt, (λ mode s x h. subst IsStorage (sym h.1) tt, tt)))
    (λ mode s x h. subst IsStorage h.1 (val_type_is mode s h.0 h.2))

field_is : AllValues IsField field_type
field_is mode s x h = subst IsField h.1 (storage_is mode h.2.front h.0.0 h.2.first)

index_is : (mode : Mode) (s : List ℕ) (n : ℕ) → s33 mode s n → n < 2 ^ 32
index_is mode s n h = omega (arith, ints, h.below)

shape_is : (b : ℕ) → AllValues IsShape (after_shape b)
shape_is =
    values_choice IsShape shape_tags (λ b. impossible) (
      λ mode s x h. subst IsShape h.1 (vec_is IsVal val_type val_type_is mode h.2.front h.0.0 h.2.first, vec_is IsVal val_type val_type_is mode h.2.back h.0.1 h.2.second),
      (
        λ mode s x h. subst IsShape h.1 (field_is mode s h.0 h.2),
        (λ mode s x h. subst IsShape h.1 (vec_is IsField field_type field_is mode s h.0 h.2), (λ mode s x h. subst IsShape h.1 (index_is mode s h.0 h.2), tt)),
      ),
    )
    (λ b mode s x h. absurd h)

abbrev IsIndexAnd : {X : Type 0} → (X → Type 0) → Option ℕ × X → Type 0
IsIndexAnd P p = IsGivenIndex p.0 × P p.1

index_values : {X : Type 0} (P : X → Type 0) (tag : ℕ) (F : ℕ → Format X) → ((b : ℕ) → AllValues P (F b)) → (b : ℕ) → AllValues (IsIndexAnd P) (with_index tag F b)
index_values P tag F all =
    values_choice (IsIndexAnd P) ((tag, mapped given_index (pair u32 (tagged byte F))) ∷ []) (λ c. mapped no_index (F c))
    (λ mode s x h. subst (IsIndexAnd P) h.1 (h.2.first.range, tagged_values P F all mode h.2.back h.0.1 h.2.second), tt)
    (λ b mode s x h. subst (IsIndexAnd P) h.1 (tt, all b mode s h.0 h.2))

abbrev IsDescribed : Option ℕ × Shape → Type 0
IsDescribed p = IsIndexAnd IsShape p

abbrev IsDescribing : Option ℕ × (Option ℕ × Shape) → Type 0
IsDescribing p = IsIndexAnd IsDescribed p

described_is : (b : ℕ) → AllValues IsDescribed (after_descriptor b)
described_is = index_values IsShape 0x4D after_shape shape_is

describing_is : (b : ℕ) → AllValues IsDescribing (after_describes b)
describing_is = index_values IsDescribed 0x4C after_descriptor described_is

of_parts : (shared : Bool) (p : Option ℕ × (Option ℕ × Shape)) → IsDescribing p → IsComposite (composite_of shared p)
of_parts shared p h = record { describes = h.0; descriptor = h.1.0; shape = h.1.1 }

composite_is : (b : ℕ) → AllValues IsComposite (after_composite b)
composite_is =
    values_choice IsComposite ((0x65, mapped (composite_of true) (tagged byte after_describes)) ∷ []) (λ c. mapped (composite_of false) (after_describes c))
    (λ mode s x h. subst IsComposite h.1 (of_parts true h.0 (tagged_values IsDescribing after_describes describing_is mode s h.0 h.2)), tt)
    (λ b mode s x h. subst IsComposite h.1 (of_parts false h.0 (describing_is b mode s h.0 h.2)))

abbrev AreSupertypesAnd : List ℕ × Composite → Type 0
AreSupertypesAnd p = IsEncodableVec (IsUnsignedInRange 32) p.0 × IsComposite p.1

supertypes_are : AllValues AreSupertypesAnd (pair (vec u32) composite_type)
supertypes_are mode s p h = (vec_is (IsUnsignedInRange 32) u32 (λ mode s n k. k.range) mode h.front p.0 h.first, tagged_values IsComposite after_composite composite_is mode h.back p.1 h.second)

sub_after_is : (w : Grammar) (b : ℕ) → AllValues IsSub (after_in w b)
sub_after_is w =
    values_choice IsSub (sub_tags w) after_alone (
      λ mode s x h. let p = supertypes_are mode s h.0 h.2 in subst IsSub h.1 (record { supertypes = p.0; composite = p.1 }),
      (λ mode s x h. let p = supertypes_are mode s h.0 h.2.0 in subst IsSub h.1 (record { supertypes = p.0; composite = p.1 }), tt),
    )
    (λ b mode s x h. subst IsSub h.1 (record { supertypes = record { count = omega arith; members = All-nil _ }; composite = composite_is b mode s h.0 h.2 }))

prefixed_is : (w : Grammar) → AllValues IsSub (prefixed_sub w)
prefixed_is w = tagged_values IsSub (after_in w) (sub_after_is w)

sub_is : AllValues IsSub sub_type
sub_is minimal = prefixed_is builders minimal
sub_is padded = prefixed_is builders padded
sub_is standard_minimal = prefixed_is builders standard_minimal
sub_is standard = prefixed_is admitted standard

pub type_is : AllValues IsType type_item
type_is =
    values_one_of IsType (values_tagged IsType group_tags (λ mode s x h. subst IsType h.1 (vec_is IsSub sub_type sub_is mode s h.0 h.2), tt))
    (λ mode s x h. subst IsType h.1 (sub_is mode s h.0 h.2))

-- ---- encodings

pub before_none : (xs : List ℕ) → length xs ≡ 0 → before_encoding true xs ≡ []
before_none [] e = refl
before_none (x ∷ xs) e = absurd (omega (arith, e))

pub before_final : (xs : List ℕ) → length xs ≢ 0 → before_encoding true xs ≡ 0x4F ∷ vec_encoding unsigned_encoding xs
before_final [] p = absurd (p refl)
before_final (x ∷ xs) p = refl

pub none_encodable : (xs : List ℕ) → length xs ≡ 0 → IsEncodableVec (λ i. Unit {0}) xs
none_encodable xs e = record { count = omega (arith, e); members = λ k d l. tt }

pub ruleset before_steps = (before_none, before_final, none_encodable)

flat_map-map : {X Y : Type 0} (encoding : Y → List ℕ) (f : X → Y) (xs : List X) → flat_map (λ x. encoding (f x)) xs ≡ flat_map encoding (map f xs)
flat_map-map encoding f [] = refl
flat_map-map encoding f (x ∷ xs) = ap (λ s. encoding (f x) ++ s) (flat_map-map encoding f xs)

entry_is : {A : Type 0} (t : TypeEntry A) → entry_encoding t ≡ type_encoding (entry_view t)
entry_is (entries.Single s) = refl
entry_is (entries.Group v) = ap₂ (λ n s. 0x4E ∷ (unsigned_encoding n ++ s)) (sym (length-map v.items sub_view)) (flat_map-map sub_encoding sub_view v.items)

entry_short : {A : Type 0} (t : TypeEntry A) (s : List ℕ) → type_item padded s (entry_view t) → type_item minimal (entry_encoding t) (entry_view t)
entry_short t s h = subst (λ z. type_item minimal z (entry_view t)) (sym (entry_is t)) (type_encodes (entry_view t) (type_is padded s (entry_view t) h))

pub types_appended : {A : Type 0} (Encodable : TypeEntry A → Type 0) (xs : List (TypeEntry A)) (old new : List ℕ) → IsEncodableVec Encodable xs → new ≡ old ++ vec_encoding entry_encoding xs → AppendsMinimal builders_alone (vec type_item) (map entry_view xs) old new
types_appended Encodable xs old new encodable e = records_appended type_item entry_view entry_encoding Encodable xs old new (λ t p. built_encoding type_item (entry_view t) (entry_encoding t) (entry_short t)) encodable e

-- ---- calls

-- A recursion group, by the slice of its subtypes.
pub group_appended : {A B : Type 0} (subs slice : List (SubItem A)) {old new : Vec ℕ B} {result : Result (Unit {0}) Refused} → slice ≡ subs
    → Appends (0x4E ∷ vec_encoding (λ s. sub_encoding (sub_view s)) slice) (Unit {0} × IsEncodableVec IsEncodableSubItem slice) old new result → Appends (0x4E ∷ vec_encoding (λ s. sub_encoding (sub_view s)) subs) (IsEncodableVec IsEncodableSubItem subs) old new result
group_appended subs slice {old = old} {new = new} {result = result} e a =
    subst (λ xs. Appends (0x4E ∷ vec_encoding (λ s. sub_encoding (sub_view s)) xs) (IsEncodableVec IsEncodableSubItem xs) old new result) e (record {
      ok = a.ok;
      err = a.err;
      was_encodable = on_ok result _ _ a.was_encodable (λ p. p.1);
      too_long = λ encodable. a.too_long (tt, encodable);
      spare = λ encodable. a.spare (tt, encodable);
      capacity = a.capacity;
    })

-- The entries after their count.
pub each_appended : {A B : Type 0} (xs : List (TypeEntry A)) {old new : Vec ℕ B} {result : Result (Unit {0}) Refused} → Appends (vec_encoding entry_encoding xs) (IsEncodableVec IsEncodableEntry xs) old new result
    → OnOk result (AppendsMinimal builders_alone (vec type_item) (map entry_view xs) old.items new.items)
each_appended xs {old = old} {new = new} {result = Ok u} a = types_appended IsEncodableEntry xs old.items new.items a.was_encodable a.ok
each_appended xs {result = Err e} a = tt

-- ---- counts of types that have an encoding

shape_encodable : (s : Shape) → IsShape s → IsEncodableShape s
shape_encodable (func ps rs) h = (record { count = h.0.count; members = λ k d l. tt }, record { count = h.1.count; members = λ k d l. tt })
shape_encodable (array field) h = tt
shape_encodable (structure fields) h = record { count = h.count; members = λ k d l. tt }
shape_encodable (cont index) h = tt

sub_encodable : {A : Type 0} (s : SubItem A) → IsSub (sub_view s) → IsEncodableSubItem s
sub_encodable s h = (record { count = h.supertypes.count; members = λ k d l. tt }, shape_encodable (shape_in s.composite_type.inner) h.composite.shape)

subs_encodable : {A : Type 0} (xs : List (SubItem A)) → All IsSub (map sub_view xs) → All IsEncodableSubItem xs
subs_encodable [] h = All-nil IsEncodableSubItem
subs_encodable (x ∷ xs) h = All-cons IsEncodableSubItem x xs (sub_encodable x (All-head IsSub (sub_view x) (map sub_view xs) h)) (subs_encodable xs (All-tail IsSub (sub_view x) (map sub_view xs) h))

entry_encodable : {A : Type 0} (t : TypeEntry A) → IsType (entry_view t) → IsEncodableEntry t
entry_encodable (entries.Single s) h = sub_encodable s h
entry_encodable (entries.Group v) h = record { count = omega (arith, h.count, length-map v.items sub_view); members = subs_encodable v.items h.members }

entries_encodable : {A : Type 0} (xs : List (TypeEntry A)) → All IsType (map entry_view xs) → All IsEncodableEntry xs
entries_encodable [] h = All-nil IsEncodableEntry
entries_encodable (x ∷ xs) h = All-cons IsEncodableEntry x xs (entry_encodable x (All-head IsType (entry_view x) (map entry_view xs) h)) (entries_encodable xs (All-tail IsType (entry_view x) (map entry_view xs) h))

pub types_encodable : {A : Type 0} (xs : List (TypeEntry A)) → HasEncoding builders_alone (vec type_item) (map entry_view xs) → IsEncodableVec IsEncodableEntry xs
types_encodable xs h =
    let all = vec_is IsType type_item type_is (padded_of h.grammar) h.bytes (map entry_view xs) h.decoded in
    record { count = omega (arith, all.count, length-map xs entry_view); members = entries_encodable xs all.members }
