-- This file proves that reference types are unambiguous in both grammars.
use Rattle.wasm_base.proofs.Std.{◌≡◌, ◌≢◌, ◌⊎◌, ℕ, ◌<◌, ◌≤◌, List, [], ◌∷◌, ◌++◌, length, Bool, true, false, cond, eqb, refl, sym, ap, ap₂, subst, ◌∙◌, le_refl, arith, inl, inr, eqb-true}
use Rattle.wasm_base.specs.{Mode, minimal, padded, standard_minimal, standard, admitted, Format, byte, impossible, fixed, mapped, such, choice, tagged, when, Unambiguous, BeginsWith, Rejects}
use Rattle.wasm_base.specs.{IsIncludedIn, ShrinksTo, DeterminesPrefix, abstract_code, abstract_type, unshared, heap_type, FUNCREF, EXTERNREF, nullable_to, to, HasNoByte, ref_tags, built_ref}
use Rattle.wasm_base.specs.{nullable_abstract, HasNoCode, tight_tags, admitted_tags, tight_ref, admitted_ref, ref_type, by_mode}
use Rattle.wasm_base.specs.declared.types.AbstractHeapType.{AbstractHeapType}
use Rattle.wasm_base.specs.declared.types.HeapType.{HeapType}
use Rattle.wasm_base.specs.declared.types.RefType.{RefType}
use Rattle.wasm_base.specs.declared.types.HeapType.TheVariants.{Abstract, Concrete, Exact}
use Rattle.wasm_base.proofs.FormatLaws.{AreApart, mapped_unambiguous, such_unambiguous, byte_unambiguous, begins_mapped, begins_coded, begins_one_of, begins_weaker, choice_of, choice_begins}
use Rattle.wasm_base.proofs.FormatLaws.{AllValues, values_mapped, values_tagged, none_in_common, AllDetermine, one_of_unambiguous, one_of_unique, begin_apart, by_mode_unambiguous}
use Rattle.wasm_base.proofs.EncodingLaws.{tagged_encodes}
use Rattle.wasm_base.proofs.TypeLaws.{abstract_unambiguous, abstract_bytes, heap_unambiguous, built_unambiguous}
use Rattle.wasm_base.specs.declared.types.AbstractHeapType.TheVariants as kinds

-- ---- elimination of choices

choice_elim : {X : Type 0} (c : ℕ × Format X) (cs : List (ℕ × Format X)) (other : ℕ → Format X) (b : ℕ) (mode : Mode) (s : List ℕ) (x : X) → choice (c ∷ cs) other b mode s x → ((b ≡ c.0) × c.1 mode s x) ⊎ choice cs other b mode s x
choice_elim {X} c cs other b mode s x h = go (eqb b c.0) refl h
  where
    go : (test : Bool) → eqb b c.0 ≡ test → when test c.1 (choice cs other b) mode s x → ((b ≡ c.0) × c.1 mode s x) ⊎ choice cs other b mode s x
    go true e w = inl (eqb-true b c.0 e, w)
    go false e w = inr w

untag : {X : Type 0} (cs : List (ℕ × Format X)) (mode : Mode) (s : List ℕ) (x : X) → tagged byte (choice cs (λ b. impossible)) mode s x → (b : ℕ) × (t : List ℕ) × (s ≡ b ∷ t) × choice cs (λ b. impossible) b mode t x
untag cs mode s x h = (h.0.0, h.2.back, h.2.joined ∙ ap (λ z. z ++ h.2.back) h.2.first, subst (λ y. choice cs (λ b. impossible) h.0.0 mode h.2.back y) h.1 h.2.second)

-- ---- one byte, and two or more

abbrev IsAbstractByte : ℕ → Type 0
IsAbstractByte b = (0x68 ≤ b) × (b < 0x76)

abbrev IsLongTag : ℕ → Type 0
IsLongTag b = (0x62 < b) × (b < 0x65)

apart : AreApart IsAbstractByte IsLongTag
apart b p q = omega (arith, p.0, q.1)

abbrev short_ref : Format RefType
short_ref = mapped nullable_abstract abstract_type

short_begins : BeginsWith IsAbstractByte short_ref
short_begins = begins_mapped IsAbstractByte nullable_abstract (begins_coded IsAbstractByte abstract_code abstract_bytes)

short_unambiguous : Unambiguous short_ref
short_unambiguous = mapped_unambiguous nullable_abstract (λ x y e. let h : unshared x ≡ unshared y = ap (λ r. r.heap_type) e in cc h) abstract_unambiguous

abbrev long_tag : RefType → ℕ
long_tag r = cond r.nullable 0x63 0x64

standard_minimal_determines : AllDetermine long_tag tight_tags
standard_minimal_determines = (λ mode s x h. ap long_tag h.1, (λ mode s x h. ap long_tag h.1, tt))

admitted_determines : AllDetermine long_tag admitted_tags
admitted_determines = (λ mode s x h. ap long_tag h.1, (λ mode s x h. ap long_tag h.1, tt))

tight_long : Unambiguous (tagged byte (choice tight_tags (λ b. impossible)))
tight_long = choice_of byte long_tag tight_tags byte_unambiguous
    (mapped_unambiguous nullable_to (λ x y e. ap (λ r. r.heap_type) e) (such_unambiguous HasNoCode heap_unambiguous), (mapped_unambiguous to (λ x y e. ap (λ r. r.heap_type) e) heap_unambiguous, tt))
    standard_minimal_determines

admitted_long : Unambiguous (tagged byte (choice admitted_tags (λ b. impossible)))
admitted_long = choice_of byte long_tag admitted_tags byte_unambiguous
    (mapped_unambiguous nullable_to (λ x y e. ap (λ r. r.heap_type) e) heap_unambiguous, (mapped_unambiguous to (λ x y e. ap (λ r. r.heap_type) e) heap_unambiguous, tt))
    admitted_determines

tight_begins : BeginsWith IsLongTag (tagged byte (choice tight_tags (λ b. impossible)))
tight_begins = choice_begins IsLongTag tight_tags (λ b. impossible) ((omega arith, omega arith), ((omega arith, omega arith), tt)) (λ b mode s x h. absurd h)

admitted_begins : BeginsWith IsLongTag (tagged byte (choice admitted_tags (λ b. impossible)))
admitted_begins = choice_begins IsLongTag admitted_tags (λ b. impossible) ((omega arith, omega arith), ((omega arith, omega arith), tt)) (λ b mode s x h. absurd h)

-- The form of a heap type: 0 if it has a byte of its own.
abbrev heap_form : HeapType → ℕ
heap_form (Abstract false ty) = 0
heap_form (Abstract true ty) = 1
heap_form (Concrete n) = 1
heap_form (Exact n) = 1

abbrev ref_form : RefType → ℕ
ref_form r = cond r.nullable (heap_form r.heap_type) 1

no_code_form : (heap : HeapType) → HasNoCode heap → 0 < heap_form heap
no_code_form (Abstract false ty) h = absurd h
no_code_form (Abstract true ty) h = omega arith
no_code_form (Concrete n) h = omega arith
no_code_form (Exact n) h = omega arith

tight_values : AllValues (λ x. 0 < ref_form x) (tagged byte (choice tight_tags (λ b. impossible)))
tight_values = values_tagged (λ x. 0 < ref_form x) tight_tags
    ((λ mode s x h. subst (λ z. 0 < ref_form z) h.1 (no_code_form h.0 h.2.1)), (values_mapped (λ x. 0 < ref_form x) to heap_type (λ x. omega arith), tt))

standard_minimal_unambiguous : Unambiguous tight_ref
standard_minimal_unambiguous = one_of_unambiguous IsAbstractByte IsLongTag apart short_begins tight_begins
    (none_in_common (λ x. ref_form x ≡ 0) (λ x. 0 < ref_form x) (λ x p q. omega (arith, p, q)) (values_mapped (λ x. ref_form x ≡ 0) nullable_abstract abstract_type (λ x. refl)) tight_values)
    short_unambiguous tight_long

admitted_unique : DeterminesPrefix (admitted_ref standard)
admitted_unique = one_of_unique {F = short_ref} {G = tagged byte (choice admitted_tags (λ b. impossible))} (begin_apart IsAbstractByte IsLongTag apart short_begins admitted_begins) standard (short_unambiguous.unique standard) (admitted_long.unique standard)

-- ---- the encodings of one format that another one has too

null_admitted : (b : ℕ) (t : List ℕ) (x : RefType) (heap : HeapType) → b ≡ 0x63 → nullable_to heap ≡ x → heap_type standard t heap → admitted_ref standard (b ∷ t) x
null_admitted b t x heap e q h = subst (λ z. admitted_ref standard (z ∷ t) x) (sym e) (subst (λ y. admitted_ref standard (0x63 ∷ t) y) q (inr (tagged_encodes standard 0x63 t (nullable_to heap) (heap, refl, h))))

to_admitted : (b : ℕ) (t : List ℕ) (x : RefType) (heap : HeapType) → b ≡ 0x64 → to heap ≡ x → heap_type standard t heap → admitted_ref standard (b ∷ t) x
to_admitted b t x heap e q h = subst (λ z. admitted_ref standard (z ∷ t) x) (sym e) (subst (λ y. admitted_ref standard (0x64 ∷ t) y) q (inr (tagged_encodes standard 0x64 t (to heap) (heap, refl, h))))

byte_admitted : (b : ℕ) (t : List ℕ) (x : RefType) (ty : AbstractHeapType) → b ≡ abstract_code ty → t ≡ [] → x ≡ nullable_abstract ty → admitted_ref standard (b ∷ t) x
byte_admitted b t x ty e n q = inl (ty, sym q, ap₂ ◌∷◌ e n)

ref_admitted : IsIncludedIn (built_ref padded) (admitted_ref standard)
ref_admitted s x h =
    let u = untag ref_tags padded s x h in
    subst (λ z. admitted_ref standard z x) (sym u.2) (first u.0 u.1 u.3)
  where
    fourth : (b : ℕ) (t : List ℕ) → choice ((0x64, mapped to heap_type) ∷ []) (λ b. impossible) b padded t x → admitted_ref standard (b ∷ t) x
    fourth b t c = elim (choice_elim (0x64, mapped to heap_type) [] (λ b. impossible) b padded t x c) [
      | inl p ↦ to_admitted b t x p.1.0 p.0 p.1.1 (heap_unambiguous.encodings.included padded standard tt t p.1.0 p.1.2)
      | inr d ↦ absurd d
    ]

    third : (b : ℕ) (t : List ℕ) → choice ((0x63, mapped nullable_to (such HasNoByte heap_type)) ∷ (0x64, mapped to heap_type) ∷ []) (λ b. impossible) b padded t x → admitted_ref standard (b ∷ t) x
    third b t c = elim (choice_elim (0x63, mapped nullable_to (such HasNoByte heap_type)) ((0x64, mapped to heap_type) ∷ []) (λ b. impossible) b padded t x c) [
      | inl p ↦ null_admitted b t x p.1.0 p.0 p.1.1 (heap_unambiguous.encodings.included padded standard tt t p.1.0 p.1.2.0)
      | inr d ↦ fourth b t d
    ]

    second : (b : ℕ) (t : List ℕ) → choice ((0x6F, fixed [] EXTERNREF) ∷ (0x63, mapped nullable_to (such HasNoByte heap_type)) ∷ (0x64, mapped to heap_type) ∷ []) (λ b. impossible) b padded t x → admitted_ref standard (b ∷ t) x
    second b t c = elim (choice_elim (0x6F, fixed [] EXTERNREF) ((0x63, mapped nullable_to (such HasNoByte heap_type)) ∷ (0x64, mapped to heap_type) ∷ []) (λ b. impossible) b padded t x c) [
      | inl p ↦ byte_admitted b t x kinds.Extern p.0 p.1.0 p.1.1
      | inr d ↦ third b t d
    ]

    first : (b : ℕ) (t : List ℕ) → choice ref_tags (λ b. impossible) b padded t x → admitted_ref standard (b ∷ t) x
    first b t c = elim (choice_elim (0x70, fixed [] FUNCREF) ((0x6F, fixed [] EXTERNREF) ∷ (0x63, mapped nullable_to (such HasNoByte heap_type)) ∷ (0x64, mapped to heap_type) ∷ []) (λ b. impossible) b padded t x c) [
      | inl p ↦ byte_admitted b t x kinds.Func p.0 p.1.0 p.1.1
      | inr d ↦ second b t d
    ]

tight_admitted : IsIncludedIn (tight_ref standard_minimal) (admitted_ref standard)
tight_admitted s x (inl k) = inl k
tight_admitted s x (inr k) =
    let u = untag tight_tags standard_minimal s x k in
    subst (λ z. admitted_ref standard z x) (sym u.2) (first u.0 u.1 u.3)
  where
    second : (b : ℕ) (t : List ℕ) → choice ((0x64, mapped to heap_type) ∷ []) (λ b. impossible) b standard_minimal t x → admitted_ref standard (b ∷ t) x
    second b t c = elim (choice_elim (0x64, mapped to heap_type) [] (λ b. impossible) b standard_minimal t x c) [
      | inl p ↦ to_admitted b t x p.1.0 p.0 p.1.1 (heap_unambiguous.encodings.included standard_minimal standard tt t p.1.0 p.1.2)
      | inr d ↦ absurd d
    ]

    first : (b : ℕ) (t : List ℕ) → choice tight_tags (λ b. impossible) b standard_minimal t x → admitted_ref standard (b ∷ t) x
    first b t c = elim (choice_elim (0x63, mapped nullable_to (such HasNoCode heap_type)) ((0x64, mapped to heap_type) ∷ []) (λ b. impossible) b standard_minimal t x c) [
      | inl p ↦ null_admitted b t x p.1.0 p.0 p.1.1 (heap_unambiguous.encodings.included standard_minimal standard tt t p.1.0 p.1.2.0)
      | inr d ↦ second b t d
    ]

-- A minimal encoding of the type that is no longer.
abbrev Shrinks : List ℕ → RefType → Type 0
Shrinks s x = (w : List ℕ) × tight_ref standard_minimal w x × (length w ≤ length s)

coded_shrinks : (b : ℕ) (t : List ℕ) (x : RefType) (heap : HeapType) → HasNoCode heap → nullable_to heap ≡ x → heap_type standard t heap → Shrinks (b ∷ t) x
coded_shrinks b t x heap n q h =
    let a = heap_unambiguous.encodings.shorter admitted t heap h in
    (0x63 ∷ a.0, subst (λ y. tight_ref standard_minimal (0x63 ∷ a.0) y) q (inr (tagged_encodes standard_minimal 0x63 a.0 (nullable_to heap) (heap, refl, (a.1, n)))), omega (arith, a.2))

null_shrinks : (b : ℕ) (t : List ℕ) (x : RefType) (heap : HeapType) → nullable_to heap ≡ x → heap_type standard t heap → Shrinks (b ∷ t) x
null_shrinks b t x (Abstract false ty) q h = (abstract_code ty ∷ [], inl (ty, q, refl), omega arith)
null_shrinks b t x (Abstract true ty) q h = coded_shrinks b t x (Abstract true ty) tt q h
null_shrinks b t x (Concrete n) q h = coded_shrinks b t x (Concrete n) tt q h
null_shrinks b t x (Exact n) q h = coded_shrinks b t x (Exact n) tt q h

ref_shrinks : ShrinksTo (admitted_ref standard) (tight_ref standard_minimal)
ref_shrinks s x (inl k) = (s, inl k, le_refl (length s))
ref_shrinks s x (inr k) =
    let u = untag admitted_tags standard s x k in
    let r = first u.0 u.1 u.3 in
    (r.0, r.1, omega (arith, r.2, ap length u.2))
  where
    second : (b : ℕ) (t : List ℕ) → choice ((0x64, mapped to heap_type) ∷ []) (λ b. impossible) b standard t x → Shrinks (b ∷ t) x
    second b t c = elim (choice_elim (0x64, mapped to heap_type) [] (λ b. impossible) b standard t x c) [
      | inl p ↦
          let a = heap_unambiguous.encodings.shorter admitted t p.1.0 p.1.2 in
          (0x64 ∷ a.0, subst (λ y. tight_ref standard_minimal (0x64 ∷ a.0) y) p.1.1 (inr (tagged_encodes standard_minimal 0x64 a.0 (to p.1.0) (p.1.0, refl, a.1))), omega (arith, a.2))
      | inr d ↦ absurd d
    ]

    first : (b : ℕ) (t : List ℕ) → choice admitted_tags (λ b. impossible) b standard t x → Shrinks (b ∷ t) x
    first b t c = elim (choice_elim (0x63, mapped nullable_to heap_type) ((0x64, mapped to heap_type) ∷ []) (λ b. impossible) b standard t x c) [
      | inl p ↦ null_shrinks b t x p.1.0 p.1.1 p.1.2
      | inr d ↦ second b t d
    ]

-- ---- both grammars

pub ref_unambiguous : Unambiguous ref_type
ref_unambiguous = by_mode_unambiguous built_ref tight_ref admitted_ref built_unambiguous standard_minimal_unambiguous admitted_unique ref_admitted tight_admitted ref_shrinks

-- The first bytes of reference types.
abbrev pub IsRefByte : ℕ → Type 0
IsRefByte b = (0x62 < b) × (b < 0x76)

begins_by_mode : {X : Type 0} (P : ℕ → Type 0) {F G H : Format X} → BeginsWith P F → BeginsWith P G → BeginsWith P H → BeginsWith P (by_mode F G H)
begins_by_mode P f g h minimal = f minimal
begins_by_mode P f g h padded = f padded
begins_by_mode P f g h standard_minimal = g standard_minimal
begins_by_mode P f g h standard = h standard

short_ref_begins : BeginsWith IsRefByte short_ref
short_ref_begins = begins_weaker IsAbstractByte IsRefByte (λ b p. (omega (arith, p.0), p.1)) short_begins

long_ref : (b : ℕ) → IsLongTag b → IsRefByte b
long_ref b p = (p.0, omega (arith, p.1))

pub ref_begins : BeginsWith IsRefByte ref_type
ref_begins =
    begins_by_mode IsRefByte
    (choice_begins IsRefByte ref_tags (λ b. impossible) ((omega arith, omega arith), ((omega arith, omega arith), ((omega arith, omega arith), ((omega arith, omega arith), tt)))) (λ b mode s x h. absurd h))
    (begins_one_of IsRefByte short_ref_begins (begins_weaker IsLongTag IsRefByte long_ref tight_begins))
    (begins_one_of IsRefByte short_ref_begins (begins_weaker IsLongTag IsRefByte long_ref admitted_begins))

-- ---- one byte for nullable references to abstract types

pub one_byte : (ty : AbstractHeapType) → ref_type standard_minimal (abstract_code ty ∷ []) (nullable_abstract ty)
one_byte ty = inl (ty, refl, refl)

pub two_parts : (heap : HeapType) (s : List ℕ) → heap_type standard s heap → ref_type standard (0x63 ∷ s) (nullable_to heap)
two_parts heap s h = inr (tagged_encodes standard 0x63 s (nullable_to heap) (heap, refl, h))

-- The first byte of a reference type that builders write.
abbrev IsBuiltByte : ℕ → Type 0
IsBuiltByte b = (b < 0x65) ⊎ (b ≡ 0x70) ⊎ (b ≡ 0x6F)

built_begins : BeginsWith IsBuiltByte built_ref
built_begins =
    choice_begins IsBuiltByte ref_tags (λ b. impossible) (inr (inl refl), (inr (inr refl), (inl (omega arith), (inl (omega arith), tt)))) (λ b mode s x h. absurd h)

same_code : (x y : AbstractHeapType) → abstract_code x ≡ abstract_code y → x ≡ y
same_code x y e = (abstract_unambiguous.unique minimal (abstract_code x ∷ []) (abstract_code y ∷ []) [] [] x y refl refl (ap (λ b. b ∷ []) e)).0

other_code : (ty : AbstractHeapType) → ty ≢ kinds.Func → ty ≢ kinds.Extern → IsBuiltByte (abstract_code ty) → ⊥
other_code ty p q (inl l) = omega (arith, l, (abstract_bytes ty).0)
other_code ty p q (inr e) = elim e [ inl f ↦ p (same_code ty kinds.Func f) | inr f ↦ q (same_code ty kinds.Extern f) ]

pub other_byte : (ty : AbstractHeapType) (rest : List ℕ) → ty ≢ kinds.Func → ty ≢ kinds.Extern → Rejects ref_type padded (abstract_code ty ∷ rest)
other_byte ty rest p q = record {
  none = λ x last h.
      let b = built_begins padded h.front x h.encodes in
      let all : abstract_code ty ∷ rest ≡ b.0 ∷ (b.1 ++ last) = h.split ∙ ap (λ z. z ++ last) b.2 in
      let same : abstract_code ty ≡ b.0 = cc all in
      other_code ty p q (subst IsBuiltByte (sym same) b.3);
}

pub ruleset standard_types = (one_byte, two_parts, other_byte)
