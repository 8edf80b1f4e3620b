-- This file proves the minimal encodings of value types in both grammars.
use Rattle.wasm_base.proofs.Std.{[], ◌∷◌, Bool, true, false, refl, inl, inr}
use Rattle.wasm_base.specs.{Grammar, builders, admitted, standard_minimal, minimal_of, padded_of, abstract_code, heap_encoding, heap_tags, heap_type, ref_type, val_type, unshared, shared, nullable_to, to}
use Rattle.wasm_base.specs.{IsHeap, IsRef, IsVal, ref_encoding_in, HasNoCode, tight_nullable, tight_bytes, tight_encoding, val_encoding_in}
use Rattle.wasm_base.specs.declared.types.HeapType.{HeapType}
use Rattle.wasm_base.specs.declared.types.RefType.{RefType}
use Rattle.wasm_base.specs.declared.types.ValType.{ValType}
use Rattle.wasm_base.specs.declared.types.HeapType.TheVariants.{Abstract, Concrete, Exact}
use Rattle.wasm_base.specs.declared.types.ValType.TheVariants.{I32, I64, F32, F64, V128, Ref}
use Rattle.wasm_base.proofs.EncodingLaws.{tagged_encodes}
use Rattle.wasm_base.proofs.GrammarLaws.{AreMinimalInBoth, u32_both, s33_both, coded_both, mapped_both, choices_both, one_of_both}
use Rattle.wasm_base.proofs.DecodePlain.{ref_is, val_type_is}
use Rattle.wasm_base.proofs.ValTypeLaws.{heap-encodings, ref-encodings, val-encodings}
use Rattle.wasm_base.specs.Walks.{EncodesIn}

pub heap_both : AreMinimalInBoth heap_type
heap_both = one_of_both (mapped_both unshared (coded_both abstract_code)) (one_of_both (choices_both heap_tags (mapped_both shared (coded_both abstract_code), (mapped_both Exact u32_both, tt))) (mapped_both Concrete s33_both))

heap_tight : (h : HeapType) → IsHeap h → heap_type standard_minimal (heap_encoding h) h
heap_tight h p = heap_both.same (heap_encoding h) h (heap-encodings.encodes h p)

long_tight : (h : HeapType) → IsHeap h → HasNoCode h → ref_type standard_minimal (0x63 ∷ heap_encoding h) (nullable_to h)
long_tight h p none = inr (tagged_encodes standard_minimal 0x63 (heap_encoding h) (nullable_to h) (h, refl, (heap_tight h p, none)))

nullable_tight : (h : HeapType) → IsHeap h → ref_type standard_minimal (tight_nullable h) (nullable_to h)
nullable_tight (Abstract false ty) p = inl (ty, refl, refl)
nullable_tight (Abstract true ty) p = long_tight (Abstract true ty) p tt
nullable_tight (Concrete n) p = long_tight (Concrete n) p tt
nullable_tight (Exact n) p = long_tight (Exact n) p tt

ref_tight : (nullable : Bool) (h : HeapType) → IsHeap h → ref_type standard_minimal (tight_bytes nullable h) (record { nullable = nullable; heap_type = h })
ref_tight true h p = nullable_tight h p
ref_tight false h p = inr (tagged_encodes standard_minimal 0x64 (heap_encoding h) (to h) (h, refl, heap_tight h p))

-- The encoding of a well-formed reference type in each grammar is minimal.
pub ref_encodes_in : (w : Grammar) (r : RefType) → IsRef r → ref_type (minimal_of w) (ref_encoding_in w r) r
ref_encodes_in builders r p = ref-encodings.encodes r p
ref_encodes_in admitted r p = ref_tight r.nullable r.heap_type p

pub ref_in : (w : Grammar) → EncodesIn w ref_type (λ r. r) (ref_encoding_in w)
ref_in w = record { minimal_in = λ s r h. ref_encodes_in w r (ref_is (padded_of w) s r h) }

val_tight : (t : ValType) → IsVal t → val_type standard_minimal (tight_encoding t) t
val_tight I32 p = inl (tagged_encodes standard_minimal 0x7F [] I32 (refl, refl))
val_tight I64 p = inl (tagged_encodes standard_minimal 0x7E [] I64 (refl, refl))
val_tight F32 p = inl (tagged_encodes standard_minimal 0x7D [] F32 (refl, refl))
val_tight F64 p = inl (tagged_encodes standard_minimal 0x7C [] F64 (refl, refl))
val_tight V128 p = inl (tagged_encodes standard_minimal 0x7B [] V128 (refl, refl))
val_tight (Ref r) p = inr (r, refl, ref_tight r.nullable r.heap_type p)

-- The encoding of a well-formed value type in each grammar is minimal.
pub val_encodes_in : (w : Grammar) (t : ValType) → IsVal t → val_type (minimal_of w) (val_encoding_in w t) t
val_encodes_in builders t p = val-encodings.encodes t p
val_encodes_in admitted t p = val_tight t p

pub val_in : (w : Grammar) → EncodesIn w val_type (λ t. t) (val_encoding_in w)
val_in w = record { minimal_in = λ s t h. val_encodes_in w t (val_type_is (padded_of w) s t h) }
