-- This file proves the consequences of a call that succeeds.
use Rattle.wasm_base.proofs.Std.{Result, Ok, Err, OnOk}

pub on_ok : {T E : Type 0} (r : Result T E) (P Q : Type 0) → OnOk r P → (P → Q) → OnOk r Q
on_ok (Ok x) P Q p f = f p
on_ok (Err e) P Q p f = tt

pub on_ok_both : {T E : Type 0} (r : Result T E) (P Q S : Type 0) → OnOk r P → OnOk r Q → (P → Q → S) → OnOk r S
on_ok_both (Ok x) P Q S p q f = f p q
on_ok_both (Err e) P Q S p q f = tt
