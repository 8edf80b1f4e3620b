-- This file proves the equations of LEB128 encodings and the bounds of their lengths.
use Rattle.wasm_base.proofs.Std.{◌≡◌, ℕ, Bool, zero, suc, ◌+◌, ◌*◌, ◌/◌, ◌^◌, ◌<◌, ◌≤◌, [], ◌∷◌, length, refl, sym, ap, ◌∙◌, arith, inl, inr, cases_lt, lt-ltb, le-ltb, pow-suc}
use Rattle.wasm_base.specs.{next_group, last_group, groups_of, groups_encoding}

module _ (b : Bool) (limit : ℕ) where
  groups_of-last : (more n : ℕ) → n < limit → groups_of b limit more n ≡ last_group b n ∷ []
  unfolding groups_of
  groups_of-last zero n h = refl
  groups_of-last (suc more) n h = rw (lt-ltb n limit h, groups_of) refl

  groups_of-more : (more n : ℕ) → limit ≤ n → groups_of b limit (suc more) n ≡ next_group b n ∷ groups_of b limit more (n / 128)
  unfolding groups_of
  groups_of-more more n h = rw (le-ltb n limit h, groups_of) refl

-- Every sufficient bound on the groups gives the same encoding.
groups_of-enough : (b : Bool) (limit : ℕ) → 0 < limit → (more other n : ℕ) → n ≤ more → n ≤ other → groups_of b limit more n ≡ groups_of b limit other n
groups_of-enough b limit some zero other n h k = groups_of-last b limit zero n (omega arith) ∙ sym (groups_of-last b limit other n (omega arith))
groups_of-enough b limit some (suc more) zero n h k = groups_of-last b limit (suc more) n (omega arith) ∙ sym (groups_of-last b limit zero n (omega arith))
groups_of-enough b limit some (suc more) (suc other) n h k =
    elim (cases_lt n limit) [
      | inl low ↦ groups_of-last b limit (suc more) n low ∙ sym (groups_of-last b limit (suc other) n low)
      | inr high ↦
          groups_of-more b limit more n high
          ∙ ap (λ t. next_group b n ∷ t) (groups_of-enough b limit some more other (n / 128) (omega arith) (omega arith))
          ∙ sym (groups_of-more b limit other n high)
    ]

pub groups_encoding-last : (b : Bool) (limit n : ℕ) → n < limit → groups_encoding b limit n ≡ last_group b n ∷ []
unfolding groups_encoding
groups_encoding-last b limit n h = groups_of-last b limit n n h

pub groups_encoding-more : (b : Bool) (limit n : ℕ) → 0 < limit → limit ≤ n → groups_encoding b limit n ≡ next_group b n ∷ groups_encoding b limit (n / 128)
unfolding groups_encoding
groups_encoding-more b limit zero some h = absurd (omega arith)
groups_encoding-more b limit (suc n) some h =
    groups_of-more b limit n (suc n) h ∙ ap (λ t. next_group b (suc n) ∷ t) (groups_of-enough b limit some n (suc n / 128) (suc n / 128) (omega arith) (omega arith))

pub length-groups_encoding-last : (b : Bool) (limit n : ℕ) → n < limit → length (groups_encoding b limit n) ≡ 1
length-groups_encoding-last b limit n h = ap length (groups_encoding-last b limit n h)

pub length-groups_encoding-more : (b : Bool) (limit n : ℕ) → 0 < limit → limit ≤ n → length (groups_encoding b limit n) ≡ length (groups_encoding b limit (n / 128)) + 1
length-groups_encoding-more b limit n some h = rw (groups_encoding-more b limit n some h) (omega arith)

-- An encoding has at least one byte.
pub length-groups_encoding-positive : (b : Bool) (limit n : ℕ) → 0 < limit → 1 ≤ length (groups_encoding b limit n)
length-groups_encoding-positive b limit n some =
    elim (cases_lt n limit) [
      | inl low ↦ omega (arith, length-groups_encoding-last b limit n low)
      | inr high ↦ omega (arith, length-groups_encoding-more b limit n some high)
    ]

-- An encoding has at most one byte for each seven bits.
pub length-groups_encoding-le : (b : Bool) (limit k n : ℕ) → 0 < limit → n < limit * 128 ^ k → length (groups_encoding b limit n) ≤ suc k
length-groups_encoding-le b limit zero n some h = omega (arith, length-groups_encoding-last b limit n (omega arith))
length-groups_encoding-le b limit (suc k) n some h =
    elim (cases_lt n limit) [
      | inl low ↦ omega (arith, length-groups_encoding-last b limit n low)
      | inr high ↦
          let power : limit * 128 ^ suc k ≡ 128 * (limit * 128 ^ k) = omega (arith, ap (λ p. limit * p) (pow-suc 128 k)) in
          let below : n / 128 < limit * 128 ^ k = omega (arith, power, h) in
          omega (arith, length-groups_encoding-more b limit n some high, length-groups_encoding-le b limit k (n / 128) some below)
    ]

-- For the tactics: a number of 64 bits has at most ten bytes.
pub most_groups : (b : Bool) (limit n : ℕ) → 64 ≤ limit → n < 2 ^ 64 → length (groups_encoding b limit n) ≤ 10
most_groups b limit n high h = length-groups_encoding-le b limit 9 n (omega arith) (omega arith)

-- For the tactics: the encoding of a number of one byte.
pub one_group : (b : Bool) (limit n : ℕ) → n < limit → groups_encoding b limit n ≡ last_group b n ∷ []
one_group = groups_encoding-last

-- For the tactics: the encoding of a number of two bytes.
pub two_groups : (b : Bool) (limit n : ℕ) → 0 < limit → limit ≤ n → n < limit * 128 → groups_encoding b limit n ≡ next_group b n ∷ last_group b (n / 128) ∷ []
two_groups b limit n some high low = groups_encoding-more b limit n some high ∙ ap (λ t. next_group b n ∷ t) (groups_encoding-last b limit (n / 128) (omega arith))
