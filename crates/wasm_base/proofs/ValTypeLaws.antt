-- This file proves that value types are unambiguous, and that the encodings of types encode them.
use Rattle.wasm_base.proofs.Std.{◌≡◌, ◌≢◌, ◌⊎◌, ℕ, ◌<◌, [], ◌∷◌, Bool, true, false, refl, sym, ap, subst, arith, inl, inr}
use Rattle.wasm_base.specs.{minimal, unsigned_encoding, byte, fixed, impossible, Unambiguous, HasMinimalEncodings, UnambiguousPadded, BeginsWith, shared, heap_type, FUNCREF, EXTERNREF, abstract_code}
use Rattle.wasm_base.specs.{nullable_to, to, ref_type, val_tags, number_type, val_type, heap_encoding, nullable_encoding, ref_bytes, ref_encoding, val_encoding, IsHeap, IsRef, IsVal}
use Rattle.wasm_base.specs.declared.types.HeapType.{HeapType}
use Rattle.wasm_base.specs.declared.types.ValType.{ValType}
use Rattle.wasm_base.specs.declared.types.HeapType.TheVariants.{Abstract, Concrete, Exact}
use Rattle.wasm_base.specs.declared.types.ValType.TheVariants.{I32, I64, F32, F64, V128, Ref}
use Rattle.wasm_base.proofs.FormatLaws.{mapped_unambiguous, fixed_unambiguous, AllValues, one_of_unambiguous, byte_unambiguous, begins_mapped, begins_one_of, begins_weaker, choice_of, choice_begins}
use Rattle.wasm_base.proofs.FormatLaws.{values_mapped, values_tagged, none_in_common}
use Rattle.wasm_base.proofs.EncodingLaws.{u32_encodes, s33_encodes, tagged_encodes}
use Rattle.wasm_base.proofs.BaseLaws.{unambiguous_padded}
use Rattle.wasm_base.proofs.TypeLaws.{heap_unambiguous, begins_s33, mark}
use Rattle.wasm_base.proofs.RefTypeLaws.{IsRefByte, ref_unambiguous, ref_begins}
use Rattle.wasm_base.specs.declared.types.AbstractHeapType.TheVariants as kinds

-- ---- number types and vector types

-- The byte of a number type or vector type, and 0 for a reference type.
abbrev number_code : ValType → ℕ
number_code I32 = 0x7F
number_code I64 = 0x7E
number_code F32 = 0x7D
number_code F64 = 0x7C
number_code V128 = 0x7B
number_code (Ref r) = 0

-- The bytes of number types and vector types.
abbrev pub IsNumberByte : ℕ → Type 0
IsNumberByte b = (0x7A < b) × (b < 0x80)

number_unambiguous : Unambiguous number_type
number_unambiguous =
    choice_of byte number_code val_tags byte_unambiguous
    (fixed_unambiguous [] I32, (fixed_unambiguous [] I64, (fixed_unambiguous [] F32, (fixed_unambiguous [] F64, (fixed_unambiguous [] V128, tt)))))
    (λ mode s x h. ap number_code (sym h.1), (λ mode s x h. ap number_code (sym h.1), (λ mode s x h. ap number_code (sym h.1), (λ mode s x h. ap number_code (sym h.1), (λ mode s x h. ap number_code (sym h.1), tt)))))

number_begins : BeginsWith IsNumberByte number_type
number_begins = choice_begins IsNumberByte val_tags (λ b. impossible) ((omega arith, omega arith), ((omega arith, omega arith), ((omega arith, omega arith), ((omega arith, omega arith), ((omega arith, omega arith), tt))))) (λ b mode s x h. absurd h)

-- ---- value types

-- The first bytes of value types.
abbrev pub IsValByte : ℕ → Type 0
IsValByte b = IsNumberByte b ⊎ IsRefByte b

pub val_begins : BeginsWith IsValByte val_type
val_begins =
    begins_one_of IsValByte
    (begins_weaker IsNumberByte IsValByte (λ b p. inl p) number_begins)
    (begins_weaker IsRefByte IsValByte (λ b p. inr p) (begins_mapped IsRefByte Ref ref_begins))

pub val_unambiguous : Unambiguous val_type
val_unambiguous =
    one_of_unambiguous IsNumberByte IsRefByte (λ b p q. omega (arith, p.0, q.1)) number_begins (begins_mapped IsRefByte Ref ref_begins)
    (none_in_common (λ x. 0 < number_code x) (λ x. number_code x ≡ 0) (λ x p q. omega (arith, p, q))
    (values_tagged (λ x. 0 < number_code x) val_tags (positive I32 (omega arith), (positive I64 (omega arith), (positive F32 (omega arith), (positive F64 (omega arith), (positive V128 (omega arith), tt))))))
    (values_mapped (λ x. number_code x ≡ 0) Ref ref_type (λ x. refl)))
    number_unambiguous (mapped_unambiguous Ref (λ x y e. cc) ref_unambiguous)
  where
    positive : (ty : ValType) → 0 < number_code ty → AllValues (λ x. 0 < number_code x) (fixed [] ty)
    positive ty p mode s x h = subst (λ z. 0 < number_code z) (sym h.1) p

-- ---- encodings

heap_encodes : (h : HeapType) → IsHeap h → heap_type minimal (heap_encoding h) h
heap_encodes (Abstract false ty) p = inl (ty, refl, refl)
heap_encodes (Abstract true ty) p = inr (inl (tagged_encodes minimal 0x65 (abstract_code ty ∷ []) (shared ty) (ty, refl, refl)))
heap_encodes (Concrete n) p = inr (inr (n, refl, s33_encodes n p))
heap_encodes (Exact n) p = inr (inl (tagged_encodes minimal 0x62 (unsigned_encoding n) (Exact n) (n, refl, u32_encodes n p)))

marked_encodes : (h : HeapType) → IsHeap h → mark h ≢ 0x70 → mark h ≢ 0x6F → ref_type minimal (0x63 ∷ heap_encoding h) (nullable_to h)
marked_encodes h p f g = tagged_encodes minimal 0x63 (heap_encoding h) (nullable_to h) (h, refl, (heap_encodes h p, (λ e. f (ap mark e), λ e. g (ap mark e))))

nullable_encodes : (h : HeapType) → IsHeap h → ref_type minimal (nullable_encoding h) (nullable_to h)
nullable_encodes (Abstract false kinds.Func) p = tagged_encodes minimal 0x70 [] FUNCREF (refl, refl)
nullable_encodes (Abstract false kinds.Extern) p = tagged_encodes minimal 0x6F [] EXTERNREF (refl, refl)
nullable_encodes heap p = marked_encodes heap p (omega arith) (omega arith)

bytes_encodes : (nullable : Bool) (h : HeapType) → IsHeap h → ref_type minimal (ref_bytes nullable h) (record { nullable = nullable; heap_type = h })
bytes_encodes true h p = nullable_encodes h p
bytes_encodes false h p = tagged_encodes minimal 0x64 (heap_encoding h) (to h) (h, refl, heap_encodes h p)

val_encodes : (t : ValType) → IsVal t → val_type minimal (val_encoding t) t
val_encodes I32 p = inl (tagged_encodes minimal 0x7F [] I32 (refl, refl))
val_encodes I64 p = inl (tagged_encodes minimal 0x7E [] I64 (refl, refl))
val_encodes F32 p = inl (tagged_encodes minimal 0x7D [] F32 (refl, refl))
val_encodes F64 p = inl (tagged_encodes minimal 0x7C [] F64 (refl, refl))
val_encodes V128 p = inl (tagged_encodes minimal 0x7B [] V128 (refl, refl))
val_encodes (Ref r) p = inr (r, refl, bytes_encodes r.nullable r.heap_type p)

pub heap-encodings : HasMinimalEncodings heap_type IsHeap heap_encoding
heap-encodings = record { encodes = heap_encodes }

pub ref-encodings : HasMinimalEncodings ref_type IsRef ref_encoding
ref-encodings = record { encodes = λ r p. bytes_encodes r.nullable r.heap_type p }

pub val-encodings : HasMinimalEncodings val_type IsVal val_encoding
val-encodings = record { encodes = val_encodes }

pub ruleset types = (heap_unambiguous, ref_unambiguous, val_unambiguous, heap-encodings, ref-encodings, val-encodings, begins_s33)

-- ---- padded LEB128

pub padded-heap : UnambiguousPadded heap_type
padded-heap = unambiguous_padded heap_unambiguous

pub padded-ref : UnambiguousPadded ref_type
padded-ref = unambiguous_padded ref_unambiguous

pub padded-val : UnambiguousPadded val_type
padded-val = unambiguous_padded val_unambiguous

pub ruleset padded_types = (padded-heap, padded-ref, padded-val)
