-- This file proves that decoded values are well-formed and in normal form, so that their encoding
-- is the minimal one.
use Rattle.wasm_base.proofs.Std.{◌≡◌, ℕ, ◌^◌, ◌<◌, List, [], ◌∷◌, ◌++◌, length, Bool, true, false, sym, subst, eqb, arith, All, ints, All-nil, All-cons}
use Rattle.wasm_base.specs.{Mode, minimal, padded, standard_minimal, standard, by_mode, mapped, unsigned_encoding, Format, u32, s33, any_bytes, name, size_prefixed, choice, members, vec, when}
use Rattle.wasm_base.specs.{little_endian, HasMinimalEncodings, IsHeap, IsRef, IsVal, heap_type, heap_tags, ref_tags, tight_tags, admitted_tags, nullable_abstract, abstract_type, ref_type, val_tags}
use Rattle.wasm_base.specs.{val_type, val_encoding, IsEncodableVec, size_prefixed_encoding, Grammars, builders_alone, AppendsMinimal}
use Rattle.wasm_base.specs.declared.types.ValType.{ValType}
use Rattle.wasm_base.proofs.FormatLaws.{AllValues, AllChoices, values_one_of, values_tagged}
use Rattle.wasm_base.proofs.ValTypeLaws.{val-encodings}
use Rattle.wasm_base.proofs.DecodeFixed.{sum_below}
use Rattle.wasm_base.proofs.GrammarLaws.{u32_canonical, name_canonical, bytes_canonical}
use Rattle.wasm_base.proofs.MinimalEncodings.{built_appended, canonical_appended}

-- If all decoded values fit, the encoding of one is minimal in the builders' grammar.
pub fitting_appended : {X : Type 0} (F : Format X) (Encodable : X → Type 0) (encoding : X → List ℕ) (x : X) (old new : List ℕ) → HasMinimalEncodings F Encodable encoding → AllValues Encodable F → new ≡ old ++ encoding x → AppendsMinimal builders_alone F x old new
fitting_appended F Encodable encoding x old new encodings all e = built_appended F x (encoding x) old new (λ s h. encodings.encodes x (all padded s x h)) e

-- ---- numbers and fixed bytes

pub u32_appended : {k : Grammars} (n : ℕ) (old new : List ℕ) → new ≡ old ++ unsigned_encoding n → AppendsMinimal k u32 n old new
u32_appended n old new e = canonical_appended u32 (λ n. n) unsigned_encoding n old new u32_canonical e

pub little_endian_below : (n : ℕ) (mode : Mode) (s : List ℕ) (v : ℕ) → little_endian n mode s v → v < 256 ^ n
little_endian_below n mode s v h = subst (λ k. v < 256 ^ k) h.2 (subst (λ z. z < 256 ^ length s) h.0 (sum_below s h.1))

-- ---- size-prefixed bytes and names

pub bytes_appended : {k : Grammars} (bytes old new : List ℕ) → new ≡ old ++ size_prefixed_encoding bytes → AppendsMinimal k (size_prefixed any_bytes) bytes old new
bytes_appended bytes old new e = canonical_appended (size_prefixed any_bytes) (λ b. b) size_prefixed_encoding bytes old new bytes_canonical e

pub name_appended : {k : Grammars} (bytes old new : List ℕ) → new ≡ old ++ size_prefixed_encoding bytes → AppendsMinimal k name bytes old new
name_appended bytes old new e = canonical_appended name (λ n. n) size_prefixed_encoding bytes old new name_canonical e

-- ---- types

pub values_choice : {X : Type 0} (Q : X → Type 0) (cs : List (ℕ × Format X)) (other : ℕ → Format X) → AllChoices Q cs → ((b : ℕ) → AllValues Q (other b)) → (b : ℕ) → AllValues Q (choice cs other b)
values_choice Q [] other h g b mode s x k = g b mode s x k
values_choice {X} Q (c ∷ cs) other h g b mode s x k = go (values_choice Q cs other h.1 g b mode s x) (eqb b c.0) k
  where
    go : (choice cs other b mode s x → Q x) → (test : Bool) → when test c.1 (choice cs other b) mode s x → Q x
    go more true k = h.0 mode s x k
    go more false k = more k

-- An index that is encoded as a signed number is below 2^32.
pub index_is : (mode : Mode) (s : List ℕ) (n : ℕ) → s33 mode s n → n < 2 ^ 32
index_is mode s n h = omega (arith, ints, h.below)

pub heap_is : AllValues IsHeap heap_type
heap_is =
    values_one_of IsHeap (λ mode s x h. subst IsHeap h.1 tt)
    (values_one_of IsHeap (values_tagged IsHeap heap_tags (λ mode s x h. subst IsHeap h.1 tt, (λ mode s x h. subst IsHeap h.1 h.2.range, tt))) (λ mode s x h. subst IsHeap h.1 (index_is mode s h.0 h.2)))

pub values_by_mode : {X : Type 0} (Q : X → Type 0) {F G H : Format X} → AllValues Q F → AllValues Q G → AllValues Q H → AllValues Q (by_mode F G H)
values_by_mode Q f g h minimal = f minimal
values_by_mode Q f g h padded = f padded
values_by_mode Q f g h standard_minimal = g standard_minimal
values_by_mode Q f g h standard = h standard

short_is : AllValues IsRef (mapped nullable_abstract abstract_type)
short_is mode s x h = subst IsRef h.1 tt

pub ref_is : AllValues IsRef ref_type
ref_is =
    values_by_mode IsRef
    (values_tagged IsRef ref_tags (
      λ mode s x h. subst IsRef (sym h.1) tt,
      (λ mode s x h. subst IsRef (sym h.1) tt, (λ mode s x h. subst IsRef h.1 (heap_is mode s h.0 h.2.0), (λ mode s x h. subst IsRef h.1 (heap_is mode s h.0 h.2), tt))),
    ))
    (values_one_of IsRef short_is (values_tagged IsRef tight_tags (λ mode s x h. subst IsRef h.1 (heap_is mode s h.0 h.2.0), (λ mode s x h. subst IsRef h.1 (heap_is mode s h.0 h.2), tt))))
    (values_one_of IsRef short_is (values_tagged IsRef admitted_tags (λ mode s x h. subst IsRef h.1 (heap_is mode s h.0 h.2), (λ mode s x h. subst IsRef h.1 (heap_is mode s h.0 h.2), tt))))

pub val_type_is : AllValues IsVal val_type
val_type_is =
    values_one_of IsVal
    (values_tagged IsVal val_tags
    (λ mode s x h. subst IsVal (sym h.1) tt, (λ mode s x h. subst IsVal (sym h.1) tt, (λ mode s x h. subst IsVal (sym h.1) tt, (λ mode s x h. subst IsVal (sym h.1) tt, (λ mode s x h. subst IsVal (sym h.1) tt, tt))))))
    (λ mode s x h. subst IsVal h.1 (ref_is mode s h.0 h.2))

pub val_appended : (ty : ValType) (old new : List ℕ) → new ≡ old ++ val_encoding ty → AppendsMinimal builders_alone val_type ty old new
val_appended ty old new e = fitting_appended val_type IsVal val_encoding ty old new val-encodings val_type_is e

-- ---- vectors

members_are : {X : Type 0} (Q : X → Type 0) (F : Format X) → AllValues Q F → (mode : Mode) (s : List ℕ) (xs : List X) → members F mode s xs → All Q xs
members_are Q F all mode s [] h = All-nil Q
members_are Q F all mode s (x ∷ xs) h = All-cons Q x xs (all mode h.0 x h.3) (members_are Q F all mode h.1 xs h.4)

pub vec_is : {X : Type 0} (Q : X → Type 0) (F : Format X) → AllValues Q F → AllValues (IsEncodableVec Q) (vec F)
vec_is Q F all mode s xs h = record { count = omega (arith, h.first.range); members = members_are Q F all mode h.back xs h.second }
