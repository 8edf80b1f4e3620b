-- This file proves the consequences of a result for an input.
use Rattle.wasm_base.proofs.Words.{Option, Some, None}
use Rattle.std.proofs.Common.{IfSome}

-- If the property holds of an input and a result, it is false that it holds of none.
pub not_none : {X Y : Type 0} (K : Type 0) (P : X → Y → Type 0) (input : Option X) (y : Y) → IfSome input (λ x. P x y) → IfSome input (λ x. ((y : Y) → P x y → ⊥) → K)
not_none K P None y h = tt
not_none K P (Some x) y h = λ none. absurd (none y h)
