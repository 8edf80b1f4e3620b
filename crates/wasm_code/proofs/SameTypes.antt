-- This file proves that value types that `==` finds equal are equal.
use Rattle.wasm_base.proofs.Words.{◌≡◌, Bool, true, false, ap, refl, rules}
use Rattle.wasm_base.specs.declared.types.AbstractHeapType.{AbstractHeapType}
use Rattle.wasm_base.specs.declared.types.HeapType.{HeapType}
use Rattle.wasm_base.specs.declared.types.RefType.{RefType}
use Rattle.wasm_base.specs.declared.types.ValType.{ValType}
use Rattle.wasm_base.specs.declared.types.ValType.TheVariants.{I32, I64, F32, F64, V128, Ref}
use Rattle.wasm_base.specs.contracts.types.AbstractHeapType.{the_type}
use Rattle.wasm_base.specs.contracts.types.AbstractHeapTypePartialEq.TheImpl.{eq-value as abstract_eq}
use Rattle.wasm_base.specs.contracts.types.HeapTypePartialEq.TheImpl.{eq-value as heap_eq}
use Rattle.wasm_base.specs.contracts.types.RefTypePartialEq.TheImpl.{eq-value as ref_eq}
use Rattle.wasm_base.specs.contracts.types.ValTypePartialEq.TheImpl.{eq-value as val_eq}
use Rattle.wasm_base.specs.declared.types.HeapType.TheVariants.{Abstract, Concrete, Exact}
use denote.Enum.Bare.{same_true}

same_abstract : (a b : AbstractHeapType) → abstract_eq.it a b ≡ true → a ≡ b
same_abstract a b e = same_true the_type (search rules) a b e

same_heap : (a b : HeapType) → heap_eq.it a b ≡ true → a ≡ b
same_heap (Abstract true a) (Abstract true b) e = ap (λ ty. Abstract true ty) (same_abstract a b e)
same_heap (Abstract false a) (Abstract false b) e = ap (λ ty. Abstract false ty) (same_abstract a b e)
same_heap (Concrete n) (Concrete m) e = let same : n ≡ m = search rules in ap Concrete same
same_heap (Exact n) (Exact m) e = let same : n ≡ m = search rules in ap Exact same
same_heap _ _ e = absurd (cc e)

abbrev ref_of : Bool → HeapType → RefType
ref_of nullable heap = record { nullable = nullable; heap_type = heap }

same_parts : (s t : Bool) (a b : HeapType) → ref_eq.it (ref_of s a) (ref_of t b) ≡ true → ref_of s a ≡ ref_of t b
same_parts true true a b e = ap (ref_of true) (same_heap a b e)
same_parts false false a b e = ap (ref_of false) (same_heap a b e)
same_parts _ _ a b e = absurd (cc e)

same_ref : (a b : RefType) → ref_eq.it a b ≡ true → a ≡ b
same_ref a b e = same_parts a.nullable b.nullable a.heap_type b.heap_type e

pub same_val : (a b : ValType) → val_eq.it a b ≡ true → a ≡ b
same_val I32 I32 e = refl
same_val I64 I64 e = refl
same_val F32 F32 e = refl
same_val F64 F64 e = refl
same_val V128 V128 e = refl
same_val (Ref a) (Ref b) e = ap Ref (same_ref a b e)
same_val _ _ e = absurd (cc e)
