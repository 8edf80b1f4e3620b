-- This file proves that std's iterators yield as many items as they report.
use Rattle.wasm_base.proofs.Std.{◌≡◌, ℕ, suc, ◌+◌, List, [], ◌∷◌, ◌++◌, length, refl, sym, ap, ◌∙◌, Option, Some, None, arith, append-nil, YieldsList-from_slice, items_from_drains}
use Rattle.wasm_base.proofs.Std.{YieldsList-from_copied, map-id, array_into_iter_items, array_steps, Drains, Yields, copied_source, copied_steps, iter_rest, iter_steps, into_iter_len, into_iter_steps}
use Rattle.wasm_base.proofs.Std.{IntoIter, Copied, Iter}
use Rattle.std.specs.declared.vec.IntoIter.{IntoIter as VecIter}

module _ {S A : Type 0} (gives : S → Option A → S → Type 0) (left : S → ℕ)
    (step : (s : S) (x : A) (t : S) → gives s (Some x) t → left s ≡ suc (left t)) (stop : (s t : S) → gives s None t → left s ≡ 0) where
  yielded_length : (s : S) (xs : List A) (t : S) → Yields gives s xs t → left s ≡ length xs + left t
  yielded_length s [] t y = ap left y ∙ omega arith
  yielded_length s (x ∷ xs) t y = omega (arith, step s x y.0 y.1, yielded_length y.0 xs t y.2)

  -- An iterator that counts its remaining items yields that many.
  pub drained_length : (s : S) (xs : List A) → Drains gives s xs → length xs ≡ left s
  drained_length s xs d = omega (arith, yielded_length s xs d.1.0 d.1.1, stop d.1.0 d.0 d.1.2)

-- An array by value, and a vector by value.
pub drained_array : {A : Type 0} {n : ℕ} (it : IntoIter A n) (xs : List A) → Drains array_steps it xs → length xs ≡ length (array_into_iter_items it)
drained_array = drained_length array_steps (λ s. length (array_into_iter_items s)) (λ s x t g. ap length g) (λ s t g. g.0)

pub drained_vec : {A Z : Type 0} (it : VecIter A Z) (xs : List A) → Drains (into_iter_steps {X = A} {Z = Z}) it xs → length xs ≡ into_iter_len it
drained_vec = drained_length into_iter_steps into_iter_len (λ s x t g. omega (arith, g.1)) (λ s t g. g.0)

-- ---- the items themselves: those of the array

items_then : {A : Type 0} {n : ℕ} (it : IntoIter A n) (xs : List A) (left : IntoIter A n) → Yields array_steps it xs left → array_into_iter_items it ≡ xs ++ array_into_iter_items left
items_then it [] left y = ap array_into_iter_items y
items_then it (x ∷ xs) left y = y.1 ∙ ap (λ z. x ∷ z) (items_then y.0 xs left y.2)

nothing_left : {A : Type 0} (xs : List A) → length xs ≡ 0 → xs ≡ []
nothing_left [] e = refl
nothing_left (x ∷ xs) e = absurd (omega (arith, e))

pub array_items : {A : Type 0} {n : ℕ} (it : IntoIter A n) (xs : List A) → Drains array_steps it xs → xs ≡ array_into_iter_items it
array_items it xs d = sym (items_then it xs d.1.0 d.1.1 ∙ ap (λ z. xs ++ z) (nothing_left (array_into_iter_items d.1.0) d.1.2.0) ∙ append-nil xs)

-- ---- a slice whose members are copied

pub copied_items : {A : Type 0} (it : Copied (Iter A)) (xs : List A) → Drains (copied_steps iter_steps) it xs → xs ≡ iter_rest (copied_source it)
copied_items it xs d = sym (map-id xs) ∙ items_from_drains xs (d.1.0, d.1.1, λ w. (d.0, d.1.2)) (YieldsList-from_copied (YieldsList-from_slice (iter_rest (copied_source it)) refl))

pub drained_copied : {A : Type 0} (it : Copied (Iter A)) (xs : List A) → Drains (copied_steps iter_steps) it xs → length xs ≡ length (iter_rest (copied_source it))
drained_copied it xs d = ap length (copied_items it xs d)
