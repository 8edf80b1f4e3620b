-- This file proves that a cause remains true when a call propagates it without its offset.
use Rattle.wasm_base.proofs.Words.{◌≡◌, ◌≢◌, Result, Ok, Err, ◌∙◌}
use Rattle.std.proofs.Common.{IfErr, IsErrAnd}
use Rattle.wasm_base.specs.declared.fault.ReadFault.{ReadFault}
use Rattle.wasm_base.specs.declared.fault.ReadFault.TheVariants.{Memory}

pub cause_stays : {T P : Type 0} (r : Result T ReadFault) (f : ReadFault) → IsErrAnd r (λ y. y ≡ f) → (f ≢ Memory → P) → IfErr r (λ e. e ≢ Memory → P)
cause_stays (Ok x) f h p = elim h [ ]
cause_stays (Err e) f h p = λ n. p (λ k. n (h ∙ k))

-- The cause `Memory` implies nothing about the bytes.
pub cause_of_memory : {T : Type 0} (P : Type 0) (r : Result T ReadFault) → IsErrAnd r (λ y. y ≡ Memory) → IfErr r (λ e. e ≢ Memory → P)
cause_of_memory P (Ok x) h = elim h [ ]
cause_of_memory P (Err e) h = λ n. absurd (n h)
