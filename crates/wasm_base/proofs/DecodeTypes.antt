-- This file proves how readers decode types.
use Rattle.wasm_base.proofs.Std.{◌≡◌, ◌≢◌, ◌⊎◌, inl, inr, Result, IfErr, ℕ, ◌<◌, ◌≤◌, List, [], ◌∷◌, ◌++◌, Bool, true, false, refl, sym, ap, subst, ◌∙◌, arith}
use Rattle.wasm_base.specs.{Mode, Grammar, builders, admitted, padded, padded_of, standard, is_admitted, Format, u32, byte, s33, after_byte, choice, impossible, mapped, tagged, one_of, BeginsWith}
use Rattle.wasm_base.specs.{Decodes, Rejects, abstract_code, abstract_type, unshared, shared, heap_tags, heap_type, HasNoByte, HasLongForm, FUNCREF, EXTERNREF, nullable_to, nullable_abstract, to}
use Rattle.wasm_base.specs.{ref_tags, admitted_tags, ref_type, val_tags, val_type, IsIndexByte, Failure}
use Rattle.wasm_base.specs.declared.types.AbstractHeapType.{AbstractHeapType}
use Rattle.wasm_base.specs.declared.types.HeapType.{HeapType}
use Rattle.wasm_base.specs.declared.types.RefType.{RefType}
use Rattle.wasm_base.specs.declared.types.ValType.{ValType}
use Rattle.wasm_base.specs.declared.types.HeapType.TheVariants.{Abstract, Concrete, Exact}
use Rattle.wasm_base.specs.declared.types.ValType.TheVariants.{I32, I64, F32, F64, V128, Ref}
use Rattle.wasm_base.proofs.FormatLaws.{byte_unambiguous}
use Rattle.wasm_base.proofs.EncodingLaws.{tagged_encodes}
use Rattle.wasm_base.proofs.TypeLaws.{abstract_bytes, begins_s33, heap_unambiguous}
use Rattle.wasm_base.proofs.RefTypeLaws.{IsRefByte, ref_begins}
use Rattle.wasm_base.proofs.ValTypeLaws.{IsValByte, val_begins}
use Rattle.wasm_base.proofs.DecodingSteps.{mapped_decodes, mapped_rejects, such_decodes, such_none, such_rejects}
use Rattle.wasm_base.specs.declared.fault.ReadFault.TheVariants.{Memory}
use Rattle.wasm_base.proofs.Faults.{if_err_more}
use Rattle.wasm_base.proofs.Tags.{tagged_decodes, tagged_none, tagged_rejects, no_choice, fixed_decodes, one_of_rejects, one_of_left, one_of_right, not_begun, no_bytes, code_decodes, code_none}
use Rattle.wasm_base.proofs.Tags.{code_unknown}
use Rattle.wasm_base.specs.declared.types.AbstractHeapType.TheVariants as kinds

-- ---- abstract types

pub no_abstract : (b : ℕ) → (b < 0x68) ⊎ (0x76 ≤ b) → (ty : AbstractHeapType) → b ≢ abstract_code ty
no_abstract b h ty e = let a = abstract_bytes ty in elim h [ inl l ↦ omega (arith, l, a.0, e) | inr l ↦ omega (arith, l, a.1, e) ]

pub ruleset abstract_steps = (no_abstract, refl)

pub abstract_decodes : {m : Mode} (bytes rest : List ℕ) (b : ℕ) (ty : AbstractHeapType) → Decodes byte m bytes b rest → b ≡ abstract_code ty → Decodes abstract_type m bytes ty rest
abstract_decodes = code_decodes abstract_code

pub abstract_none : {m : Mode} (bytes : List ℕ) → Rejects byte m bytes → Rejects abstract_type m bytes
abstract_none = code_none abstract_code

pub abstract_unknown : {m : Mode} (bytes rest : List ℕ) (b : ℕ) → Decodes byte m bytes b rest → ((ty : AbstractHeapType) → b ≢ abstract_code ty) → Rejects abstract_type m bytes
abstract_unknown = code_unknown abstract_code

pub ruleset abstract_type_steps = (abstract_decodes, abstract_none, abstract_unknown)

-- ---- heap types

abbrev tagged_heap : Format HeapType
tagged_heap = tagged byte (choice heap_tags (λ b. impossible))

heap_tagged : {m : Mode} {bytes rest : List ℕ} {h : HeapType} → Decodes tagged_heap m bytes h rest → Decodes heap_type m bytes h rest
heap_tagged r = one_of_right (mapped unshared abstract_type) (one_of_left (mapped Concrete s33) r)

pub heap_exact : {m : Mode} (bytes rest last : List ℕ) (b n : ℕ) → Decodes byte m bytes b rest → b ≡ 0x62 → Decodes u32 m rest n last → Decodes heap_type m bytes (Exact n) last
heap_exact {m = m} bytes rest last b n h e g = heap_tagged (tagged_decodes {G = choice heap_tags (λ b. impossible)} h (subst (λ c. Decodes (choice heap_tags (λ b. impossible) c) m rest (Exact n) last) (sym e) (mapped_decodes Exact g)))

pub heap_shared : {m : Mode} (bytes rest last : List ℕ) (b : ℕ) (ty : AbstractHeapType) → Decodes byte m bytes b rest → b ≡ 0x65 → Decodes abstract_type m rest ty last → Decodes heap_type m bytes (Abstract true ty) last
heap_shared {m = m} bytes rest last b ty h e g = heap_tagged (tagged_decodes {G = choice heap_tags (λ b. impossible)} h (subst (λ c. Decodes (choice heap_tags (λ b. impossible) c) m rest (Abstract true ty) last) (sym e) (mapped_decodes shared g)))

pub heap_abstract : {m : Mode} (bytes rest : List ℕ) (b : ℕ) (ty : AbstractHeapType) → Decodes byte m bytes b rest → b ≡ abstract_code ty → Decodes heap_type m bytes (Abstract false ty) rest
heap_abstract bytes rest b ty h e = one_of_left (one_of tagged_heap (mapped Concrete s33)) (mapped_decodes unshared (abstract_decodes bytes rest b ty h e))

pub heap_index : {m : Mode} (bytes rest : List ℕ) (n : ℕ) → Decodes s33 m bytes n rest → Decodes heap_type m bytes (Concrete n) rest
heap_index bytes rest n h = one_of_right (mapped unshared abstract_type) (one_of_right tagged_heap (mapped_decodes Concrete h))

heap_rejects : {m : Mode} (bytes : List ℕ) → Rejects abstract_type m bytes → Rejects tagged_heap m bytes → Rejects s33 m bytes → Rejects heap_type m bytes
heap_rejects bytes f g h = one_of_rejects (mapped_rejects unshared f) (one_of_rejects g (mapped_rejects Concrete h))

pub heap_none : {m : Mode} (bytes : List ℕ) → Rejects byte m bytes → Rejects heap_type m bytes
heap_none bytes none = heap_rejects bytes (abstract_none bytes none) (tagged_none byte (choice heap_tags (λ b. impossible)) bytes none) (no_bytes IsIndexByte s33 begins_s33 none)

pub no_index_byte : (b : ℕ) → 0x40 ≤ b → b < 0x80 → IsIndexByte b → ⊥
no_index_byte b l u h = elim h [ inl i ↦ omega (arith, l, i) | inr i ↦ omega (arith, u, i) ]

heap_tag_rejects : {m : Mode} (bytes rest : List ℕ) (b : ℕ) → Decodes byte m bytes b rest → 0x62 ≤ b → b < 0x68 → Rejects (choice heap_tags (λ c. impossible) b) m rest → Rejects heap_type m bytes
heap_tag_rejects bytes rest b h l u none =
    heap_rejects bytes (abstract_unknown bytes rest b h (no_abstract b (inl u))) (tagged_rejects {G = choice heap_tags (λ b. impossible)} byte_unambiguous h none)
    (not_begun IsIndexByte s33 begins_s33 h (no_index_byte b (omega (arith, l)) (omega (arith, u))))

pub heap_no_exact : {m : Mode} (bytes rest : List ℕ) (b : ℕ) → Decodes byte m bytes b rest → b ≡ 0x62 → Rejects u32 m rest → Rejects heap_type m bytes
heap_no_exact {m = m} bytes rest b h e none = heap_tag_rejects bytes rest b h (omega (arith, e)) (omega (arith, e)) (subst (λ c. Rejects (choice heap_tags (λ b. impossible) c) m rest) (sym e) (mapped_rejects Exact none))

pub heap_no_shared : {m : Mode} (bytes rest : List ℕ) (b : ℕ) → Decodes byte m bytes b rest → b ≡ 0x65 → Rejects abstract_type m rest → Rejects heap_type m bytes
heap_no_shared {m = m} bytes rest b h e none = heap_tag_rejects bytes rest b h (omega (arith, e)) (omega (arith, e)) (subst (λ c. Rejects (choice heap_tags (λ b. impossible) c) m rest) (sym e) (mapped_rejects shared none))

pub heap_no_index : {m : Mode} (bytes rest : List ℕ) (b : ℕ) → Decodes byte m bytes b rest → b ≢ 0x62 → b ≢ 0x65 → ((ty : AbstractHeapType) → b ≢ abstract_code ty) → Rejects s33 m bytes → Rejects heap_type m bytes
heap_no_index bytes rest b h p q other none =
    heap_rejects bytes (abstract_unknown bytes rest b h other) (tagged_rejects {G = choice heap_tags (λ b. impossible)} byte_unambiguous h (no_choice heap_tags b rest (q, (p, tt)))) none

pub ruleset heap_steps = (heap_exact, heap_shared, heap_abstract, heap_index, heap_none, heap_no_exact, heap_no_shared, heap_no_index)

-- ---- reference types

pub own_func : HasNoByte (unshared kinds.Func) → ⊥
own_func h = h.0 refl

pub own_extern : HasNoByte (unshared kinds.Extern) → ⊥
own_extern h = h.1 refl

pub ruleset own_byte_steps = (own_func, own_extern)

-- ---- the form of a nullable reference type

module _ (w : Grammar) (heap : HeapType) (r : Bool) where
  pub long_standard : r ≡ is_admitted w → r ≡ true → HasLongForm w heap
  long_standard e t = go w (sym e ∙ t)
    where
      go : (w : Grammar) → is_admitted w ≡ true → HasLongForm w heap
      go builders f = absurd (cc f)
      go admitted f = tt

  pub long_builders : r ≡ is_admitted w → r ≡ false → HasLongForm w heap → HasNoByte heap
  long_builders e f h = go w (sym e ∙ f) h
    where
      go : (w : Grammar) → is_admitted w ≡ false → HasLongForm w heap → HasNoByte heap
      go builders f h = h
      go admitted f h = absurd (cc f)

pub long_other : (w : Grammar) (heap : HeapType) → HasNoByte heap → HasLongForm w heap
long_other builders heap h = h
long_other admitted heap h = tt

pub ruleset long_form_steps = (long_standard, long_builders, long_other)

short_admitted : (w : Grammar) (b : ℕ) (ty : AbstractHeapType) → is_admitted w ≡ true → b ≡ abstract_code ty → ref_type (padded_of w) (b ∷ []) (nullable_abstract ty)
short_admitted builders b ty f e = absurd (cc f)
short_admitted admitted b ty f e = inl (ty, refl, ap (λ z. z ∷ []) e)

pub short_is : (w : Grammar) (b : ℕ) (ty : AbstractHeapType) (r : Bool) → r ≡ is_admitted w → r ≡ true → b ≡ abstract_code ty → ref_type (padded_of w) (b ∷ []) (nullable_abstract ty)
short_is w b ty r e t = short_admitted w b ty (sym e ∙ t)

pub short_builders : (w : Grammar) (b : ℕ) (r : Bool) → r ≡ is_admitted w → r ≡ false → is_admitted w ≡ true → (ty : AbstractHeapType) → b ≢ abstract_code ty
short_builders w b r e f t ty = absurd (cc (e, f, t))

pub ruleset short_steps = (short_is, short_builders)

-- ---- after the first byte

pub tagged_after : {X : Type 0} (G : ℕ → Format X) (b : ℕ) {m : Mode} {bytes rest : List ℕ} {x : X} → Decodes (G b) m bytes x rest → Decodes (after_byte (tagged byte G) b) m bytes x rest
tagged_after G b {m = m} {x = x} h = record { front = h.front; split = h.split; encodes = tagged_encodes m b h.front x h.encodes }

untagged : {X : Type 0} (G : ℕ → Format X) (b : ℕ) (m : Mode) (s : List ℕ) (x : X) → tagged byte G m (b ∷ s) x → G b m s x
untagged G b m s x h =
    let first : b ∷ s ≡ h.0.0 ∷ h.2.back = h.2.joined ∙ ap (λ z. z ++ h.2.back) h.2.first in
    let tag : b ≡ h.0.0 = cc first in
    let back : s ≡ h.2.back = cc first in
    subst (λ y. G b m s y) h.1 (subst (λ z. G z m s h.0.1) (sym tag) (subst (λ z. G h.0.0 m z h.0.1) (sym back) h.2.second))

pub tagged_after_none : {X : Type 0} (G : ℕ → Format X) (b : ℕ) {m : Mode} {bytes : List ℕ} → Rejects (G b) m bytes → Rejects (after_byte (tagged byte G) b) m bytes
tagged_after_none G b {m = m} none = record { none = λ x rest h. none.none x rest (record { front = h.front; split = h.split; encodes = untagged G b m h.front x h.encodes }) }

pub after_decodes : {X : Type 0} (F : Format X) {m : Mode} {bytes rest last : List ℕ} {b : ℕ} {x : X} → Decodes byte m bytes b rest → Decodes (after_byte F b) m rest x last → Decodes F m bytes x last
after_decodes F {m = m} {last = last} {b = b} {x = x} h g = record { front = b ∷ g.front; split = h.split ∙ ap (λ z. h.front ++ z) g.split ∙ ap (λ z. z ++ (g.front ++ last)) h.encodes; encodes = g.encodes }

-- A format without an empty encoding rejects what it rejects after the first byte.
pub after_rejects : {X : Type 0} (P : ℕ → Type 0) (F : Format X) {m : Mode} {bytes rest : List ℕ} {b : ℕ} → BeginsWith P F → Decodes byte m bytes b rest → Rejects (after_byte F b) m rest → Rejects F m bytes
after_rejects P F {m = m} {bytes = bytes} {rest = rest} {b = b} begins h none = record {
  none = λ x last g.
      let s = begins m g.front x g.encodes in
      let all : b ∷ rest ≡ s.0 ∷ (s.1 ++ last) = sym (h.split ∙ ap (λ z. z ++ rest) h.encodes) ∙ g.split ∙ ap (λ z. z ++ last) s.2 in
      let same : b ≡ s.0 = cc all in
      let more : rest ≡ s.1 ++ last = cc all in
      none.none x last (record { front = s.1; split = more; encodes = subst (λ z. F m (z ∷ s.1) x) (sym same) (subst (λ z. F m z x) s.2 g.encodes) });
}

-- ---- reference types after their first byte

abbrev built_after : ℕ → Format RefType
built_after b = choice ref_tags (λ c. impossible) b

abbrev long_after : ℕ → Format RefType
long_after b = choice admitted_tags (λ c. impossible) b

in_builders : (b : ℕ) {bytes rest : List ℕ} {r : RefType} → Decodes (built_after b) padded bytes r rest → Decodes (after_byte ref_type b) padded bytes r rest
in_builders b h = let k = tagged_after (λ c. built_after c) b h in record { front = k.front; split = k.split; encodes = k.encodes }

not_in_builders : (b : ℕ) {bytes : List ℕ} → Rejects (built_after b) padded bytes → Rejects (after_byte ref_type b) padded bytes
not_in_builders b none = record { none = λ x rest h. (tagged_after_none (λ c. built_after c) b none).none x rest (record { front = h.front; split = h.split; encodes = h.encodes }) }

in_standard : (b : ℕ) {bytes rest : List ℕ} {r : RefType} → Decodes (long_after b) standard bytes r rest → Decodes (after_byte ref_type b) standard bytes r rest
in_standard b h = let k = tagged_after (λ c. long_after c) b h in record { front = k.front; split = k.split; encodes = inr k.encodes }

not_in_standard : (b : ℕ) {bytes : List ℕ} → ((ty : AbstractHeapType) → b ≢ abstract_code ty) → Rejects (long_after b) standard bytes → Rejects (after_byte ref_type b) standard bytes
not_in_standard b other none = record {
  none = λ x rest h. elim h.encodes [
    | inl k ↦ let code : b ≡ abstract_code k.0 = cc k.2 in other k.0 code
    | inr k ↦ (tagged_after_none (λ c. long_after c) b none).none x rest (record { front = h.front; split = h.split; encodes = k })
  ];
}

pub ref_func : (w : Grammar) (bytes : List ℕ) (b : ℕ) → b ≡ 0x70 → Decodes (after_byte ref_type b) (padded_of w) bytes FUNCREF bytes
ref_func builders bytes b e = in_builders b (subst (λ c. Decodes (built_after c) padded bytes FUNCREF bytes) (sym e) (fixed_decodes bytes FUNCREF))
ref_func admitted bytes b e = record { front = []; split = refl; encodes = inl (kinds.Func, refl, ap (λ z. z ∷ []) e) }

pub ref_extern : (w : Grammar) (bytes : List ℕ) (b : ℕ) → b ≡ 0x6F → Decodes (after_byte ref_type b) (padded_of w) bytes EXTERNREF bytes
ref_extern builders bytes b e = in_builders b (subst (λ c. Decodes (built_after c) padded bytes EXTERNREF bytes) (sym e) (fixed_decodes bytes EXTERNREF))
ref_extern admitted bytes b e = record { front = []; split = refl; encodes = inl (kinds.Extern, refl, ap (λ z. z ∷ []) e) }

pub ref_short : (w : Grammar) (bytes : List ℕ) (b : ℕ) (r : RefType) → ref_type (padded_of w) (b ∷ []) r → Decodes (after_byte ref_type b) (padded_of w) bytes r bytes
ref_short w bytes b r h = record { front = []; split = refl; encodes = h }

pub ref_to : (w : Grammar) (bytes rest : List ℕ) (b : ℕ) (h : HeapType) → b ≡ 0x64 → Decodes heap_type (padded_of w) bytes h rest → Decodes (after_byte ref_type b) (padded_of w) bytes (to h) rest
ref_to builders bytes rest b h e g = in_builders b (subst (λ c. Decodes (built_after c) padded bytes (to h) rest) (sym e) (mapped_decodes to g))
ref_to admitted bytes rest b h e g = in_standard b (subst (λ c. Decodes (long_after c) standard bytes (to h) rest) (sym e) (mapped_decodes to g))

pub ref_nullable : (w : Grammar) (bytes rest : List ℕ) (b : ℕ) (h : HeapType) → b ≡ 0x63 → Decodes heap_type (padded_of w) bytes h rest → HasLongForm w h → Decodes (after_byte ref_type b) (padded_of w) bytes (nullable_to h) rest
ref_nullable builders bytes rest b h e g p = in_builders b (subst (λ c. Decodes (built_after c) padded bytes (nullable_to h) rest) (sym e) (mapped_decodes nullable_to (such_decodes HasNoByte g p)))
ref_nullable admitted bytes rest b h e g p = in_standard b (subst (λ c. Decodes (long_after c) standard bytes (nullable_to h) rest) (sym e) (mapped_decodes nullable_to g))

pub ref_no_to : (w : Grammar) (bytes : List ℕ) (b : ℕ) → b ≡ 0x64 → Rejects heap_type (padded_of w) bytes → Rejects (after_byte ref_type b) (padded_of w) bytes
ref_no_to builders bytes b e none = not_in_builders b (subst (λ c. Rejects (built_after c) padded bytes) (sym e) (mapped_rejects to none))
ref_no_to admitted bytes b e none = not_in_standard b (no_abstract b (inl (omega (arith, e)))) (subst (λ c. Rejects (long_after c) standard bytes) (sym e) (mapped_rejects to none))

pub ref_no_nullable : (w : Grammar) (bytes : List ℕ) (b : ℕ) → b ≡ 0x63 → Rejects heap_type (padded_of w) bytes → Rejects (after_byte ref_type b) (padded_of w) bytes
ref_no_nullable builders bytes b e none = not_in_builders b (subst (λ c. Rejects (built_after c) padded bytes) (sym e) (mapped_rejects nullable_to (such_none HasNoByte none)))
ref_no_nullable admitted bytes b e none = not_in_standard b (no_abstract b (inl (omega (arith, e)))) (subst (λ c. Rejects (long_after c) standard bytes) (sym e) (mapped_rejects nullable_to none))

pub ref_own_byte : (w : Grammar) (bytes rest : List ℕ) (b : ℕ) (h : HeapType) → b ≡ 0x63 → Decodes heap_type (padded_of w) bytes h rest → (HasLongForm w h → ⊥) → Rejects (after_byte ref_type b) (padded_of w) bytes
ref_own_byte builders bytes rest b h e g p = not_in_builders b (subst (λ c. Rejects (built_after c) padded bytes) (sym e) (mapped_rejects nullable_to (such_rejects HasNoByte heap_unambiguous g p)))
ref_own_byte admitted bytes rest b h e g p = absurd (p tt)

pub ref_unknown : (w : Grammar) (bytes : List ℕ) (b : ℕ) → b ≢ 0x70 → b ≢ 0x6F → b ≢ 0x63 → b ≢ 0x64 → (is_admitted w ≡ true → (ty : AbstractHeapType) → b ≢ abstract_code ty) → Rejects (after_byte ref_type b) (padded_of w) bytes
ref_unknown builders bytes b p q r s other = not_in_builders b (no_choice ref_tags b bytes (p, (q, (r, (s, tt)))))
ref_unknown admitted bytes b p q r s other = not_in_standard b (other refl) (no_choice admitted_tags b bytes (r, (s, tt)))

pub ruleset ref_steps = (ref_func, ref_extern, ref_short, ref_to, ref_nullable, ref_no_to, ref_no_nullable, ref_own_byte, ref_unknown)

pub ref_type_decodes : {m : Mode} (bytes rest last : List ℕ) (b : ℕ) (r : RefType) → Decodes byte m bytes b rest → Decodes (after_byte ref_type b) m rest r last → Decodes ref_type m bytes r last
ref_type_decodes bytes rest last b r h g = after_decodes ref_type h g

pub ref_type_none : {m : Mode} (bytes : List ℕ) → Rejects byte m bytes → Rejects ref_type m bytes
ref_type_none bytes none = no_bytes IsRefByte ref_type ref_begins none

pub ref_type_rejects : {m : Mode} (bytes rest : List ℕ) (b : ℕ) → Decodes byte m bytes b rest → Rejects (after_byte ref_type b) m rest → Rejects ref_type m bytes
ref_type_rejects bytes rest b h none = after_rejects IsRefByte ref_type ref_begins h none

pub ref_type_fails : {m : Mode} {T : Type 0} (bytes rest : List ℕ) (b : ℕ) (r : Result T Failure) → Decodes byte m bytes b rest → IfErr r (λ e. e.cause ≢ Memory → Rejects (after_byte ref_type b) m rest) → IfErr r (λ e. e.cause ≢ Memory → Rejects ref_type m bytes)
ref_type_fails bytes rest b r h = if_err_more r λ e none n. ref_type_rejects bytes rest b h (none n)

pub ruleset ref_type_steps = (ref_type_decodes, ref_type_none, ref_type_rejects)

-- ---- value types after their first byte

abbrev number_after : ℕ → Format ValType
number_after b = choice val_tags (λ c. impossible) b

-- A byte for a number type.
number : {m : Mode} (bytes : List ℕ) (b : ℕ) (ty : ValType) → Decodes (number_after b) m bytes ty bytes → Decodes (after_byte val_type b) m bytes ty bytes
number bytes b ty h = let k = tagged_after (λ c. number_after c) b h in record { front = k.front; split = k.split; encodes = inl k.encodes }

pub val_i32 : {m : Mode} (bytes : List ℕ) (b : ℕ) → b ≡ 0x7F → Decodes (after_byte val_type b) m bytes I32 bytes
val_i32 {m = m} bytes b e = number bytes b I32 (subst (λ c. Decodes (number_after c) m bytes I32 bytes) (sym e) (fixed_decodes bytes I32))

pub val_i64 : {m : Mode} (bytes : List ℕ) (b : ℕ) → b ≡ 0x7E → Decodes (after_byte val_type b) m bytes I64 bytes
val_i64 {m = m} bytes b e = number bytes b I64 (subst (λ c. Decodes (number_after c) m bytes I64 bytes) (sym e) (fixed_decodes bytes I64))

pub val_f32 : {m : Mode} (bytes : List ℕ) (b : ℕ) → b ≡ 0x7D → Decodes (after_byte val_type b) m bytes F32 bytes
val_f32 {m = m} bytes b e = number bytes b F32 (subst (λ c. Decodes (number_after c) m bytes F32 bytes) (sym e) (fixed_decodes bytes F32))

pub val_f64 : {m : Mode} (bytes : List ℕ) (b : ℕ) → b ≡ 0x7C → Decodes (after_byte val_type b) m bytes F64 bytes
val_f64 {m = m} bytes b e = number bytes b F64 (subst (λ c. Decodes (number_after c) m bytes F64 bytes) (sym e) (fixed_decodes bytes F64))

pub val_v128 : {m : Mode} (bytes : List ℕ) (b : ℕ) → b ≡ 0x7B → Decodes (after_byte val_type b) m bytes V128 bytes
val_v128 {m = m} bytes b e = number bytes b V128 (subst (λ c. Decodes (number_after c) m bytes V128 bytes) (sym e) (fixed_decodes bytes V128))

pub val_is_ref : {m : Mode} (bytes rest : List ℕ) (b : ℕ) (r : RefType) → Decodes (after_byte ref_type b) m bytes r rest → Decodes (after_byte val_type b) m bytes (Ref r) rest
val_is_ref bytes rest b v h = record { front = h.front; split = h.split; encodes = inr (v, refl, h.encodes) }

pub val_no_ref : {m : Mode} (bytes : List ℕ) (b : ℕ) → b ≢ 0x7F → b ≢ 0x7E → b ≢ 0x7D → b ≢ 0x7C → b ≢ 0x7B → Rejects (after_byte ref_type b) m bytes → Rejects (after_byte val_type b) m bytes
val_no_ref bytes b p q r s t none = record {
  none = λ x rest h. elim h.encodes [
    | inl k ↦ (tagged_after_none (λ c. number_after c) b (no_choice val_tags b bytes (p, (q, (r, (s, (t, tt))))))).none x rest (record { front = h.front; split = h.split; encodes = k })
    | inr k ↦ none.none k.0 rest (record { front = h.front; split = h.split; encodes = k.2 })
  ];
}

pub ruleset val_steps = (val_i32, val_i64, val_f32, val_f64, val_v128, val_is_ref, val_no_ref)

pub val_type_decodes : {m : Mode} (bytes rest last : List ℕ) (b : ℕ) (v : ValType) → Decodes byte m bytes b rest → Decodes (after_byte val_type b) m rest v last → Decodes val_type m bytes v last
val_type_decodes bytes rest last b v h g = after_decodes val_type h g

pub val_type_none : {m : Mode} (bytes : List ℕ) → Rejects byte m bytes → Rejects val_type m bytes
val_type_none bytes none = no_bytes IsValByte val_type val_begins none

pub val_type_rejects : {m : Mode} (bytes rest : List ℕ) (b : ℕ) → Decodes byte m bytes b rest → Rejects (after_byte val_type b) m rest → Rejects val_type m bytes
val_type_rejects bytes rest b h none = after_rejects IsValByte val_type val_begins h none

pub val_type_fails : {m : Mode} {T : Type 0} (bytes rest : List ℕ) (b : ℕ) (r : Result T Failure) → Decodes byte m bytes b rest → IfErr r (λ e. e.cause ≢ Memory → Rejects (after_byte val_type b) m rest) → IfErr r (λ e. e.cause ≢ Memory → Rejects val_type m bytes)
val_type_fails bytes rest b r h = if_err_more r λ e none n. val_type_rejects bytes rest b h (none n)

pub ruleset val_type_steps = (val_type_decodes, val_type_none, val_type_rejects)
