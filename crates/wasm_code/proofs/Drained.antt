-- This file proves which items a vector yields when it is drained by value.
use Rattle.wasm_base.proofs.Words.{◌≡◌, List, length, sym, ◌∙◌, Drains, into_iter_items, into_iter_len, into_iter_steps, items_from_drains, YieldsList-from_vec, map-id}
use Rattle.std.specs.declared.vec.IntoIter.{IntoIter}

pub drained_vec : {A Z : Type 0} (items : List A) (it : IntoIter A Z) (xs : List A) → into_iter_items it ≡ items → into_iter_len it ≡ length items
    → Drains (into_iter_steps {X = A} {Z = Z}) it xs → xs ≡ items
drained_vec items it xs e l d = sym (map-id xs) ∙ items_from_drains xs (d.1.0, d.1.1, λ _. (d.0, d.1.2)) (YieldsList-from_vec items e l)
