-- This file proves the number of bytes of the first pieces together.
use Rattle.wasm_base.proofs.Words.{◌≡◌, ℕ, zero, suc, ◌≤◌, arith, ◌+◌, List, ◌∷◌, [], ◌++◌, length, get_or, take, ap, ◌∙◌, Some, length-append, slice_get, take_more, slice_get_within}
use Rattle.wasm_base.proofs.Words.{get_or_from_slice_get, joined, joined_push}

pub joined_take_more : (ps : List (List ℕ)) (i : ℕ) (p : List ℕ) → slice_get ps i ≡ Some p → length (joined (take (i + 1) ps)) ≡ length (joined (take i ps)) + length p
joined_take_more ps i p e =
    let more = take_more ps i p (slice_get_within ps i p e) in
    let at : get_or ps i p ≡ p = get_or_from_slice_get ps i p p e in
    ap (λ qs. length (joined qs)) more ∙ ap (λ q. length (joined (take i ps ++ q ∷ []))) at ∙ ap length (joined_push (take i ps) p) ∙ length-append (joined (take i ps)) p

pub joined_take_le : (ps : List (List ℕ)) (i : ℕ) → length (joined (take i ps)) ≤ length (joined ps)
joined_take_le [] zero = omega arith
joined_take_le [] (suc i) = omega arith
joined_take_le (p ∷ ps) zero = omega arith
joined_take_le (p ∷ ps) (suc i) = omega (arith, length-append p (joined (take i ps)), length-append p (joined ps), joined_take_le ps i)
