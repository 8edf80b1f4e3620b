-- This file proves the steps of loops that map the items of a list one after another.
use Rattle.std.proofs.Common.{◌≡◌, ℕ, List, map, take, drop, ◌+◌, ◌<◌, ◌++◌, ◌∷◌, [], length, slice_set, arith, ap, sym, ◌∙◌, slice_index_or, ap₂}
use Rattle.std.proofs.lemmas.List.{take_more_set, take_more, drop_more, drop-drop, drop-set-lt, map-append, map-id, length-drop}

-- Two lists that are the same from an item on are so from the next one on.
pub heads : {X : Type 0} (now old : List X) (k : ℕ) (d : X) → k < length now → drop k now ≡ drop k old → (k < length old) × (slice_index_or now k d ∷ drop (k + 1) now ≡ slice_index_or old k d ∷ drop (k + 1) old)
heads now old k d lt e =
    let lo : k < length old = omega (arith, lt, length-drop k now, length-drop k old, ap length e) in
    (lo, sym (drop_more now k d lt) ∙ e ∙ drop_more old k d lo)

pub tails : {X : Type 0} (now old : List X) (k : ℕ) (d : X) → k < length now → drop k now ≡ drop k old → drop (k + 1) now ≡ drop (k + 1) old
tails now old k d lt e = let h = (heads now old k d lt e).1 in cc h

-- The item at `k` was set, and those after it stay.
pub drop_step : {X : Type 0} (now old : List X) (k : ℕ) (x : X) → drop k now ≡ drop k old → drop (k + 1) (slice_set now k x) ≡ drop (k + 1) old
drop_step now old k x e = drop-set-lt (k + 1) now k x (omega arith) ∙ sym (drop-drop 1 k now) ∙ ap (drop 1) e ∙ drop-drop 1 k old

-- The views of the items up to `k` are mapped.
pub each_step : {X Y : Type 0} (view : X → Y) (f : Y → Y) (now old : List X) (k : ℕ) (x d : X)
    → k < length now → drop k now ≡ drop k old → map view (take k now) ≡ map f (map view (take k old)) → view x ≡ f (view (slice_index_or now k d))
    → map view (take (k + 1) (slice_set now k x)) ≡ map f (map view (take (k + 1) old))
each_step view f now old k x d lt e m v =
    let both = heads now old k d lt e in
    let same : slice_index_or now k d ≡ slice_index_or old k d = let h = both.1 in cc h in
    let a : map view (take (k + 1) (slice_set now k x)) ≡ map view (take k now) ++ view x ∷ [] = ap (map view) (take_more_set now k x lt) ∙ map-append view (take k now) (x ∷ []) in
    let b : map f (map view (take (k + 1) old)) ≡ map f (map view (take k old)) ++ f (view (slice_index_or old k d)) ∷ [] = ap (λ z. map f (map view z)) (take_more old k d both.0) ∙ ap (map f) (map-append view (take k old) (slice_index_or old k d ∷ [])) ∙ map-append f (map view (take k old)) (view (slice_index_or old k d) ∷ []) in
    a ∙ ap₂ (λ z y. z ++ y ∷ []) m (v ∙ ap (λ z. f (view z)) same) ∙ sym b

-- The same of items that are their own values.
pub item_step : {X : Type 0} (f : X → X) (now old : List X) (k : ℕ) (x d : X)
    → k < length now → drop k now ≡ drop k old → take k now ≡ map f (take k old) → x ≡ f (slice_index_or now k d)
    → take (k + 1) (slice_set now k x) ≡ map f (take (k + 1) old)
item_step f now old k x d lt e m v =
    let s = each_step (λ z. z) f now old k x d lt e (map-id (take k now) ∙ m ∙ sym (ap (map f) (map-id (take k old)))) v in
    sym (map-id (take (k + 1) (slice_set now k x))) ∙ s ∙ ap (map f) (map-id (take (k + 1) old))
