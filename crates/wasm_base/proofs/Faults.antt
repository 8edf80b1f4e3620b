-- This file proves that an error remains true when a call propagates it.
use Rattle.wasm_base.proofs.Std.{◌≡◌, ◌≢◌, Result, Ok, Err, IfErr, IsErrAnd, ap, sym, ◌∙◌}
use Rattle.std.proofs.Common.{IfOk}
use Rattle.wasm_base.specs.{Failure}
use Rattle.wasm_base.specs.declared.fault.ReadFault.TheVariants.{Memory}

-- `?` propagates the error.
pub fault_stays : {T P : Type 0} (r : Result T Failure) (f : Failure) → IsErrAnd r (λ y. y ≡ f) → (f.cause ≢ Memory → P) → IfErr r (λ e. e.cause ≢ Memory → P)
fault_stays (Ok x) f h p = elim h [ ]
fault_stays (Err e) f h p = λ n. p (λ k. n (ap (λ e. e.cause) h ∙ k))

-- The same for what `Memory` implies.
pub memory_implies : {T P : Type 0} (r : Result T Failure) (f : Failure) → IsErrAnd r (λ y. y ≡ f) → (f.cause ≡ Memory → P) → IfErr r (λ e. e.cause ≡ Memory → P)
memory_implies (Ok x) f h p = elim h [ ]
memory_implies (Err e) f h p = λ k. p (sym (ap (λ e. e.cause) h) ∙ k)

-- A property of the result that another one implies.
pub if_ok_more : {T E : Type 0} (r : Result T E) {P Q : T → Type 0} → ((x : T) → P x → Q x) → IfOk r P → IfOk r Q
if_ok_more (Ok x) f p = f x p
if_ok_more (Err e) f p = p

pub if_err_more : {T E : Type 0} (r : Result T E) {P Q : E → Type 0} → ((e : E) → P e → Q e) → IfErr r P → IfErr r Q
if_err_more (Ok x) f p = p
if_err_more (Err e) f p = f e p

-- The error `Memory` implies nothing about the bytes.
pub memory_stays : {T : Type 0} (P : Type 0) (r : Result T Failure) → IsErrAnd r (λ y. y.cause ≡ Memory) → IfErr r (λ e. e.cause ≢ Memory → P)
memory_stays P (Ok x) h = elim h [ ]
memory_stays P (Err e) h = λ n. absurd (n h)
