-- This file proves that the program has one argument.
use Rattle.wasm_base.proofs.Words.{◌≡◌, ◌<◌, ◌≤◌, List, [], ◌∷◌, length, get_or, sym, ap, arith}

-- A list of one member.
pub one_member : {X : Type 0} (xs : List X) (x : X) → 1 ≤ length xs → length xs < 2 → x ≡ get_or xs 0 x → xs ≡ x ∷ []
one_member [] x some few is = absurd (omega (arith, some))
one_member (y ∷ []) x some few is = ap (λ z. z ∷ []) (sym is)
one_member (y ∷ z ∷ zs) x some few is = absurd (omega (arith, few))
