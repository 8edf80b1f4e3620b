-- This file proves that heap types, and reference types as builders write them, are unambiguous.
use Rattle.wasm_base.proofs.Std.{◌≡◌, ◌≢◌, ◌⊎◌, ℕ, ◌<◌, ◌≤◌, [], ◌∷◌, true, false, cond, eqb, refl, sym, ap, ◌∙◌, arith, inl, inr, pos, ints, cases_lt, ne_eqb}
use Rattle.wasm_base.specs.{signed_sum, Format, byte, s33, impossible, mapped, choice, tagged, one_of, Unambiguous, BeginsWith, abstract_code, abstract_type, unshared, shared, heap_tags, heap_type}
use Rattle.wasm_base.specs.{FUNCREF, EXTERNREF, nullable_to, to, HasNoByte, ref_tags, built_ref, IsIndexByte}
use Rattle.wasm_base.specs.declared.types.AbstractHeapType.{AbstractHeapType}
use Rattle.wasm_base.specs.declared.types.HeapType.{HeapType}
use Rattle.wasm_base.specs.declared.types.RefType.{RefType}
use Rattle.wasm_base.specs.declared.types.HeapType.TheVariants.{Abstract, Concrete, Exact}
use Rattle.wasm_base.proofs.FormatLaws.{AreApart, mapped_unambiguous, such_unambiguous, coded_unambiguous, fixed_unambiguous, one_of_unambiguous, byte_unambiguous, begins_mapped, begins_coded}
use Rattle.wasm_base.proofs.FormatLaws.{begins_weaker, begins_one_of, choice_of, choice_begins, AllValues, values_mapped, values_tagged, values_one_of, none_in_common, AllDetermine, AllUnambiguous}
use Rattle.wasm_base.proofs.NumberLaws.{u32_unambiguous, single_high}
use Rattle.wasm_base.proofs.BaseLaws.{s33_unambiguous}
use Rattle.wasm_base.specs.declared.types.AbstractHeapType.TheVariants as kinds

abstract_decode : ℕ → AbstractHeapType
abstract_decode b = cond (eqb b 0x70) kinds.Func (cond (eqb b 0x6F) kinds.Extern (cond (eqb b 0x6E) kinds.Any (cond (eqb b 0x6D) kinds.Eq (cond (eqb b 0x6C) kinds.I31 (cond (eqb b 0x6B) kinds.Struct (cond (eqb b 0x6A) kinds.Array (cond (eqb b 0x69) kinds.Exn (cond (eqb b 0x74) kinds.NoExn (cond (eqb b 0x73) kinds.NoFunc (cond (eqb b 0x72) kinds.NoExtern (cond (eqb b 0x71) kinds.None (cond (eqb b 0x68) kinds.Cont kinds.NoCont))))))))))))

abstract_back : (x : AbstractHeapType) → abstract_decode (abstract_code x) ≡ x
unfolding abstract_decode
abstract_back kinds.Func = refl
abstract_back x = refl

pub abstract_unambiguous : Unambiguous abstract_type
abstract_unambiguous = coded_unambiguous abstract_code abstract_decode abstract_back

-- ---- no index begins with the byte of a type

-- The bytes of types.
abbrev pub IsTypeByte : ℕ → Type 0
IsTypeByte b = (64 ≤ b) × (b < 128)

pub types_apart : AreApart IsTypeByte IsIndexByte
types_apart b p (inl q) = omega (arith, p.0)
types_apart b p (inr q) = omega (arith, p.1)

nonnegative_low : (b n : ℕ) → b < 128 → signed_sum (b ∷ []) ≡ pos n → b < 64
nonnegative_low b n h e =
    elim (cases_lt b 64) [
      | inl lt ↦ lt
      | inr le ↦ absurd (omega (arith, ints, e, single_high b le h))
    ]

pub begins_s33 : BeginsWith IsIndexByte s33
begins_s33 mode [] n h = absurd h.groups
begins_s33 mode (b ∷ []) n h = (b, [], refl, inl (nonnegative_low b n h.groups h.total))
begins_s33 mode (b ∷ c ∷ s) n h = (b, c ∷ s, refl, inr h.groups.0)

-- ---- heap types

pub abstract_bytes : (x : AbstractHeapType) → (0x68 ≤ abstract_code x) × (abstract_code x < 0x76)
abstract_bytes kinds.Func = (omega arith, omega arith)
abstract_bytes x = (omega arith, omega arith)

-- The tag byte before a heap type that has one.
abbrev heap_tag : HeapType → ℕ
heap_tag (Abstract b ty) = 0x65
heap_tag (Concrete n) = 0
heap_tag (Exact n) = 0x62

tagged_heap_unambiguous : Unambiguous (tagged byte (choice heap_tags (λ b. impossible)))
tagged_heap_unambiguous =
    choice_of byte heap_tag heap_tags byte_unambiguous
    (mapped_unambiguous shared (λ x y e. cc) abstract_unambiguous, (mapped_unambiguous Exact (λ x y e. cc) u32_unambiguous, tt))
    (λ mode s x h. ap heap_tag h.1, (λ mode s x h. ap heap_tag h.1, tt))

mapped_heap_begins : (P : ℕ → Type 0) → ((b : ℕ) → 0x68 ≤ b → b < 0x76 → P b) → BeginsWith P (mapped unshared abstract_type)
mapped_heap_begins P h = begins_mapped P unshared (begins_coded P abstract_code (λ x. h (abstract_code x) (abstract_bytes x).0 (abstract_bytes x).1))

abbrev IsHeapTag : ℕ → Type 0
IsHeapTag b = (0x62 ≤ b) × (b < 0x68)

tagged_heap_begins : BeginsWith IsHeapTag (tagged byte (choice heap_tags (λ b. impossible)))
tagged_heap_begins = choice_begins IsHeapTag heap_tags (λ b. impossible) ((omega arith, omega arith), ((omega arith, omega arith), tt)) (λ b mode s x h. absurd h)

abbrev tagged_or_index : Format HeapType
tagged_or_index = one_of (tagged byte (choice heap_tags (λ b. impossible))) (mapped Concrete s33)

-- The number of the heap type's form, out of four.
abbrev form : HeapType → ℕ
form (Abstract false ty) = 0
form (Abstract true ty) = 1
form (Concrete n) = 2
form (Exact n) = 3

tagged_or_index_unambiguous : Unambiguous tagged_or_index
tagged_or_index_unambiguous =
    one_of_unambiguous IsHeapTag IsIndexByte
    (λ b p q. types_apart b (omega (arith, p.0, p.1)) q) tagged_heap_begins (begins_mapped IsIndexByte Concrete begins_s33)
    (none_in_common (λ x. form x ≢ 2) (λ x. form x ≡ 2) (λ x p q. p q)
    (values_tagged (λ x. form x ≢ 2) heap_tags (values_mapped (λ x. form x ≢ 2) shared _ (λ x. omega arith), (values_mapped (λ x. form x ≢ 2) Exact _ (λ x. omega arith), tt)))
    (values_mapped (λ x. form x ≡ 2) Concrete _ (λ x. refl)))
    tagged_heap_unambiguous (mapped_unambiguous Concrete (λ x y e. cc) s33_unambiguous)

tagged_or_index_begins : BeginsWith (λ b. IsHeapTag b ⊎ IsIndexByte b) tagged_or_index
tagged_or_index_begins =
    begins_one_of (λ b. IsHeapTag b ⊎ IsIndexByte b)
    (begins_weaker IsHeapTag (λ b. IsHeapTag b ⊎ IsIndexByte b) (λ b p. inl p) tagged_heap_begins)
    (begins_weaker IsIndexByte (λ b. IsHeapTag b ⊎ IsIndexByte b) (λ b p. inr p) (begins_mapped IsIndexByte Concrete begins_s33))

tagged_or_index_values : AllValues (λ x. 0 < form x) tagged_or_index
tagged_or_index_values =
    values_one_of (λ x. 0 < form x)
    (values_tagged (λ x. 0 < form x) heap_tags (values_mapped (λ x. 0 < form x) shared _ (λ x. omega arith), (values_mapped (λ x. 0 < form x) Exact _ (λ x. omega arith), tt)))
    (values_mapped (λ x. 0 < form x) Concrete _ (λ x. omega arith))

abbrev IsAbstractByte : ℕ → Type 0
IsAbstractByte b = (0x68 ≤ b) × (b < 0x76)

pub heap_unambiguous : Unambiguous heap_type
heap_unambiguous =
    one_of_unambiguous IsAbstractByte (λ b. IsHeapTag b ⊎ IsIndexByte b)
    (λ b p q. elim q [ inl h ↦ omega (arith, p.0, h.1) | inr i ↦ types_apart b (omega (arith, p.0, p.1)) i ])
    (mapped_heap_begins IsAbstractByte (λ b p q. (p, q))) tagged_or_index_begins
    (none_in_common (λ x. form x ≡ 0) (λ x. 0 < form x) (λ x p q. omega (arith, p, q)) (values_mapped (λ x. form x ≡ 0) unshared _ (λ x. refl)) tagged_or_index_values)
    (mapped_unambiguous unshared (λ x y e. cc) abstract_unambiguous) tagged_or_index_unambiguous

-- ---- reference types

abbrev pub mark : HeapType → ℕ
mark (Abstract false ty) = abstract_code ty
mark (Abstract true ty) = 0
mark (Concrete n) = 0
mark (Exact n) = 0

marked : (h : HeapType) (ty : AbstractHeapType) → 0 < abstract_code ty → mark h ≡ abstract_code ty → h ≡ unshared ty
marked (Abstract false ty') ty p e = ap unshared (sym (abstract_back ty') ∙ ap abstract_decode e ∙ abstract_back ty)
marked (Abstract true ty') ty p e = absurd (omega arith)
marked (Concrete n) ty p e = absurd (omega arith)
marked (Exact n) ty p e = absurd (omega arith)

abbrev pub nullable_tag : ℕ → ℕ
nullable_tag m = cond (eqb m 0x70) 0x70 (cond (eqb m 0x6F) 0x6F 0x63)

abbrev pub ref_tag : RefType → ℕ
ref_tag r = cond r.nullable (nullable_tag (mark r.heap_type)) 0x64

other_tag : (m : ℕ) → m ≢ 0x70 → m ≢ 0x6F → 0x63 ≡ nullable_tag m
other_tag m p q = rw (ne_eqb m 0x70 p, ne_eqb m 0x6F q) refl

pub ref_determines : AllDetermine ref_tag ref_tags
ref_determines = (
  λ mode s x h. ap ref_tag (sym h.1),
  (
    λ mode s x h. ap ref_tag (sym h.1),
    (
      λ mode s x h. other_tag (mark h.0) (λ e. h.2.1.0 (marked h.0 kinds.Func (omega arith) e)) (λ e. h.2.1.1 (marked h.0 kinds.Extern (omega arith) e)) ∙ ap ref_tag h.1,
      (λ mode s x h. ap ref_tag h.1, tt),
    ),
  ),
)

pub ref_all : AllUnambiguous ref_tags
ref_all = (
  fixed_unambiguous [] FUNCREF,
  (
    fixed_unambiguous [] EXTERNREF,
    (
      mapped_unambiguous nullable_to (λ x y e. ap (λ r. r.heap_type) e) (such_unambiguous HasNoByte heap_unambiguous),
      (mapped_unambiguous to (λ x y e. ap (λ r. r.heap_type) e) heap_unambiguous, tt),
    ),
  ),
)

pub built_unambiguous : Unambiguous built_ref
built_unambiguous = choice_of byte ref_tag ref_tags byte_unambiguous ref_all ref_determines
