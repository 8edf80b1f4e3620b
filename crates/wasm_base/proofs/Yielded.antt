-- This file proves how the items that an iterator yields are joined.
use Rattle.wasm_base.proofs.Std.{ℕ, ◌<◌, ◌≤◌, List, [], ◌∷◌, ◌++◌, length, Some, None, Option, refl, sym, subst, arith, IsSome, Drains, Yields, All, All-head, All-tail}

pub Yields-push : {S T : Type 0} (gives : S → Option T → S → Type 0) (s : S) (xs : List T) (t : S) (x : T) (u : S) → Yields gives s xs t → gives t (Some x) u → Yields gives s (xs ++ x ∷ []) u
Yields-push gives s [] t x u y g = (u, subst (λ z. gives z (Some x) u) (sym y) g, refl)
Yields-push gives s (z ∷ xs) t x u y g = (y.0, y.1, Yields-push gives y.0 xs t x u y.2 g)

pub All-last : {T : Type 0} (P : T → Type 0) (xs : List T) (x : T) → All P (xs ++ x ∷ []) → P x
All-last P [] x h = All-head P x [] h
All-last P (y ∷ xs) x h = All-last P xs x (All-tail P y (xs ++ x ∷ []) h)

-- An iterator that yields some items and then more of them yields both lists.
pub Yields-append : {S T : Type 0} (gives : S → Option T → S → Type 0) (s : S) (xs : List T) (t : S) (ys : List T) (u : S) → Yields gives s xs t → Yields gives t ys u → Yields gives s (xs ++ ys) u
Yields-append gives s [] t ys u y z = subst (λ v. Yields gives v ys u) (sym y) z
Yields-append gives s (x ∷ xs) t ys u y z = (y.0, y.1, Yields-append gives y.0 xs t ys u y.2 z)

-- An iterator that yields some items and then all remaining ones drains to both lists.
pub Drains-append : {S T : Type 0} (gives : S → Option T → S → Type 0) (s : S) (xs : List T) (t : S) (ys : List T) → Yields gives s xs t → Drains gives t ys → Drains gives s (xs ++ ys)
Drains-append gives s xs t ys y z = (z.0, (z.1.0, Yields-append gives s xs t ys z.1.0 y z.1.1, z.1.2))

-- An iterator that has yielded fewer items than it yields at least has one more.
pub one_more : {S T : Type 0} (gives : S → Option T → S → Type 0) (s : S) (xs : List T) (t u : S) (r : Option T) (n : ℕ) → Yields gives s xs t → gives t r u
    → ((ys : List T) → Drains gives s ys → n ≤ length ys) → length xs < n → IsSome r
one_more gives s xs t u None n y g many few = absurd (omega (arith, many xs (u, (t, y, g)), few))
one_more gives s xs t u (Some x) n y g many few = refl
