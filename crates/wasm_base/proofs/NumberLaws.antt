-- This file proves that LEB128 is unambiguous and that a number has one minimal encoding.
use Rattle.wasm_base.proofs.Std.{◌≡◌, ℕ, ◌+◌, ◌-◌, ◌*◌, ◌/◌, ◌%◌, ◌^◌, ◌<◌, ◌≤◌, ◌⊎◌, List, [], ◌∷◌, ◌++◌, length, Bool, true, false, cond, refl, sym, ap, ap₂, ◌∙◌, le_refl, arith, inl, inr, pos}
use Rattle.wasm_base.proofs.Std.{negsuc, neg_ℤ, ◌-ℤ◌, ◌+ℤ◌, ◌*ℤ◌, ◌≤ℤ◌, ◌<ℤ◌, cases_lt, cases_eq, lt-ltb, le-ltb, pow-add, pow-suc, pow-le-pow_right, ints}
use Rattle.std.proofs.Common.{nat_lt}
use Rattle.wasm_base.specs.{Mode, minimal, padded, AreGroups, groups_sum, last_byte, byte_limit, IsUnsignedSize, Unsigned, signed_sum, IsMinimalSigned, Signed, Grammar, Below, minimal_of, padded_of}
use Rattle.wasm_base.specs.{standard_minimal, standard, builders, admitted, Format, u32, Unambiguous, HasOneEncoding, IsIncludedIn, ShrinksTo}

-- Groups are prefix-free, since bit 7 marks the last byte.
pub groups_apart : (s t r q : List ℕ) → AreGroups s → AreGroups t → s ++ r ≡ t ++ q → (s ≡ t) × (r ≡ q)
groups_apart [] t r q h g e = absurd h
groups_apart (b ∷ []) [] r q h g e = absurd g
groups_apart (b ∷ []) (d ∷ []) r q h g e = (cc, cc)
groups_apart (b ∷ []) (d ∷ z ∷ t) r q h g e = absurd (same_head b d r (z ∷ t ++ q) h g.0 e)
  where
    same_head : (b d : ℕ) (r q : List ℕ) → b < 128 → 128 ≤ d → b ∷ r ≡ d ∷ q → ⊥
    same_head b d r q h g e = let f : b ≡ d = cc in omega arith
groups_apart (b ∷ c ∷ s) [] r q h g e = absurd g
groups_apart (b ∷ c ∷ s) (d ∷ []) r q h g e = absurd (same_head b d (c ∷ s ++ r) q h.0 g e)
  where
    same_head : (b d : ℕ) (r q : List ℕ) → 128 ≤ b → d < 128 → b ∷ r ≡ d ∷ q → ⊥
    same_head b d r q h g e = let f : b ≡ d = cc in omega arith
groups_apart (b ∷ c ∷ s) (d ∷ z ∷ t) r q h g e =
    let more = groups_apart (c ∷ s) (z ∷ t) r q h.2 g.2 cc in
    (cc (more.0), more.1)

-- ---- unsigned

sum_pos : (s : List ℕ) → AreGroups s → 0 < last_byte s → 0 < groups_sum s
sum_pos [] h l = absurd h
sum_pos (b ∷ []) h l = omega arith
sum_pos (b ∷ c ∷ s) h l = let more = sum_pos (c ∷ s) h.2 l in omega arith

unsigned_one : (s t : List ℕ) → AreGroups s → AreGroups t → IsUnsignedSize minimal 0 s → IsUnsignedSize minimal 0 t → groups_sum s ≡ groups_sum t → s ≡ t
unsigned_one [] t h g k l e = absurd h
unsigned_one (b ∷ []) [] h g k l e = absurd g
unsigned_one (b ∷ []) (d ∷ []) h g k l e = ap (λ x. x ∷ []) (omega arith)
unsigned_one (b ∷ []) (d ∷ z ∷ t) h g k (inl l) e = absurd (omega arith)
unsigned_one (b ∷ []) (d ∷ z ∷ t) h g k (inr l) e = absurd (let more = sum_pos (z ∷ t) g.2 l in omega arith)
unsigned_one (b ∷ c ∷ s) [] h g k l e = absurd g
unsigned_one (b ∷ c ∷ s) (d ∷ []) h g (inl k) l e = absurd (omega arith)
unsigned_one (b ∷ c ∷ s) (d ∷ []) h g (inr k) l e = absurd (let more = sum_pos (c ∷ s) h.2 k in omega arith)
unsigned_one (b ∷ c ∷ s) (d ∷ z ∷ t) h g (inl k) l e = absurd (omega arith)
unsigned_one (b ∷ c ∷ s) (d ∷ z ∷ t) h g (inr k) (inl l) e = absurd (omega arith)
unsigned_one (b ∷ c ∷ s) (d ∷ z ∷ t) h g (inr k) (inr l) e =
    ap₂ ◌∷◌ (omega (arith, h.0, h.1, g.0, g.1)) (unsigned_one (c ∷ s) (z ∷ t) h.2 g.2 (inr k) (inr l) (omega (arith, h.0, h.1, g.0, g.1)))

sum_large : (s : List ℕ) → AreGroups s → 0 < last_byte s → 2 ^ (7 * length s) ≤ 128 * groups_sum s
sum_large [] h l = absurd h
sum_large (b ∷ []) h l = omega arith
sum_large (b ∷ c ∷ s) h l =
    let more = sum_large (c ∷ s) h.2 l in
    let power : 2 ^ (7 * length (b ∷ c ∷ s)) ≡ 2 ^ 7 * 2 ^ (7 * length (c ∷ s)) = ap (λ k. 2 ^ k) (omega arith) ∙ pow-add 2 7 (7 * length (c ∷ s)) in
    omega (arith, power, more)

size_from_power : (n bits v : ℕ) → 2 ^ (7 * n) ≤ 128 * v → v < 2 ^ bits → n ≤ byte_limit bits
size_from_power n bits v h l =
    elim (cases_lt (7 * n) (7 + bits)) [
      | inl lt ↦ omega arith
      | inr le ↦ absurd (omega (arith, pow-le-pow_right {n = 2} (omega arith) le, pow-add 2 7 bits))
    ]

short_is_within : (bits : ℕ) (s : List ℕ) → 0 < bits → AreGroups s → groups_sum s < 2 ^ bits → IsUnsignedSize minimal bits s → length s ≤ byte_limit bits
short_is_within bits s some h l (inl k) = omega arith
short_is_within bits s some h l (inr k) = size_from_power (length s) bits (groups_sum s) (sum_large s h k) l

pub last_of_one : (t : List ℕ) → AreGroups t → 0 < groups_sum t → IsUnsignedSize minimal 0 t → 0 < last_byte t
last_of_one [] h l k = absurd h
last_of_one (c ∷ []) h l k = omega arith
last_of_one (c ∷ d ∷ t) h l (inl k) = absurd (omega arith)
last_of_one (c ∷ d ∷ t) h l (inr k) = k

pub one_group_more : (d : ℕ) (t : List ℕ) → d < 128 → AreGroups t → 0 < last_byte t → AreGroups ((d + 128) ∷ t) × (groups_sum ((d + 128) ∷ t) ≡ d + 128 * groups_sum t) × (0 < last_byte ((d + 128) ∷ t))
one_group_more d [] l h k = absurd h
one_group_more d (c ∷ t) l h k = ((omega arith, omega arith, h), omega arith, k)

-- A number up to the sum of groups has minimal groups that are no longer.
lesser : (s : List ℕ) (v : ℕ) → AreGroups s → v ≤ groups_sum s → (t : List ℕ) × AreGroups t × (groups_sum t ≡ v) × IsUnsignedSize minimal 0 t × (length t ≤ length s)
lesser [] v h l = absurd h
lesser (b ∷ []) v h l = (v ∷ [], omega arith, omega arith, inl refl, le_refl 1)
lesser (b ∷ c ∷ s) v h l =
    elim (cases_lt v 128) [
      | inl lt ↦ (v ∷ [], lt, omega arith, inl refl, omega arith)
      | inr le ↦ let more = lesser (c ∷ s) (v / 128) h.2 (omega arith) in
          let grown = one_group_more (v % 128) more.0 (omega arith) more.1 (last_of_one more.0 more.1 (omega (arith, more.2)) more.3) in
          ((v % 128 + 128) ∷ more.0, grown.0, omega (arith, grown.1, more.2), inr grown.2, omega (arith, more.4))
    ]

-- ---- signed

pub signed_step : (b c : ℕ) (s : List ℕ) → signed_sum (b ∷ c ∷ s) ≡ pos (b % 128) +ℤ pos 128 *ℤ signed_sum (c ∷ s)
signed_step b c s = go (nat_lt (last_byte (c ∷ s)) 64)
  where
    go : (small : Bool) → cond small (pos (groups_sum (b ∷ c ∷ s))) (pos (groups_sum (b ∷ c ∷ s)) -ℤ pos (128 ^ length (b ∷ c ∷ s))) ≡ pos (b % 128) +ℤ pos 128 *ℤ cond small (pos (groups_sum (c ∷ s))) (pos (groups_sum (c ∷ s)) -ℤ pos (128 ^ length (c ∷ s)))
    go true = omega (arith, ints)
    go false = omega (arith, ints, pow-suc 128 (length (c ∷ s)))

pub single_low : (b : ℕ) → b < 64 → signed_sum (b ∷ []) ≡ pos b
single_low b l = rw (lt-ltb b 64 l) (omega (arith, ints))

pub single_high : (b : ℕ) → 64 ≤ b → b < 128 → signed_sum (b ∷ []) ≡ negsuc (127 - b)
single_high b l k = rw (le-ltb b 64 l) (omega (arith, ints))

pub short_tail : (b c : ℕ) (s : List ℕ) → IsMinimalSigned (b ∷ c ∷ s) → IsMinimalSigned (c ∷ s)
short_tail b c [] h = tt
short_tail b c (d ∷ s) h = h

zero_is : (s : List ℕ) → AreGroups s → IsMinimalSigned s → signed_sum s ≡ pos 0 → s ≡ 0 ∷ []
zero_is [] h k e = absurd h
zero_is (b ∷ []) h k e =
    elim (cases_lt b 64) [
      | inl lt ↦ ap (λ x. x ∷ []) (omega (arith, ints, e, single_low b lt))
      | inr le ↦ absurd (omega (arith, ints, e, single_high b le h))
    ]
zero_is (b ∷ c ∷ []) h k e =
    let tail = zero_is (c ∷ []) h.2 tt (omega (arith, ints, e, signed_step b c [])) in
    let c_is : c ≡ 0 = cc tail in
    absurd (omega (arith, ints, e, signed_step b c [], k.0 c_is))
zero_is (b ∷ c ∷ d ∷ s) h k e =
    let tail = zero_is (c ∷ d ∷ s) h.2 k (omega (arith, ints, e, signed_step b c (d ∷ s))) in
    absurd (cc tail)

minus_one_is : (s : List ℕ) → AreGroups s → IsMinimalSigned s → signed_sum s ≡ negsuc 0 → s ≡ 127 ∷ []
minus_one_is [] h k e = absurd h
minus_one_is (b ∷ []) h k e =
    elim (cases_lt b 64) [
      | inl lt ↦ absurd (omega (arith, ints, e, single_low b lt))
      | inr le ↦ ap (λ x. x ∷ []) (omega (arith, ints, e, single_high b le h))
    ]
minus_one_is (b ∷ c ∷ []) h k e =
    let tail = minus_one_is (c ∷ []) h.2 tt (omega (arith, ints, e, signed_step b c [])) in
    let c_is : c ≡ 127 = cc tail in
    absurd (omega (arith, ints, e, signed_step b c [], k.1 c_is))
minus_one_is (b ∷ c ∷ d ∷ s) h k e =
    let tail = minus_one_is (c ∷ d ∷ s) h.2 k (omega (arith, ints, e, signed_step b c (d ∷ s))) in
    absurd (cc tail)

-- A second byte after a sufficient one is padding.
no_padding : (b d z : ℕ) (t : List ℕ) → b < 128 → AreGroups (d ∷ z ∷ t) → IsMinimalSigned (d ∷ z ∷ t) → signed_sum (b ∷ []) ≡ signed_sum (d ∷ z ∷ t) → ⊥
no_padding b d z t l g k e =
    elim (cases_lt b 64) [
      | inl lt ↦
          let low = single_low b lt in
          zero_end t k (omega (arith, ints, e, low, signed_step d z t)) (zero_is (z ∷ t) g.2 (short_tail d z t k) (omega (arith, ints, e, low, signed_step d z t)))
      | inr le ↦
          let high = single_high b le l in
          one_end t k (omega (arith, ints, e, high, signed_step d z t)) (minus_one_is (z ∷ t) g.2 (short_tail d z t k) (omega (arith, ints, e, high, signed_step d z t)))
    ]
  where
    zero_end : (t : List ℕ) → IsMinimalSigned (d ∷ z ∷ t) → d % 128 < 64 → z ∷ t ≡ 0 ∷ [] → ⊥
    zero_end [] k l e = let z_is : z ≡ 0 = cc in omega (arith, k.0 z_is)
    zero_end (y ∷ t) k l e = absurd cc

    one_end : (t : List ℕ) → IsMinimalSigned (d ∷ z ∷ t) → 64 ≤ d % 128 → z ∷ t ≡ 127 ∷ [] → ⊥
    one_end [] k l e = let z_is : z ≡ 127 = cc in omega (arith, k.1 z_is)
    one_end (y ∷ t) k l e = absurd cc

same_single : (b d : ℕ) → b < 128 → d < 128 → signed_sum (b ∷ []) ≡ signed_sum (d ∷ []) → b ≡ d
same_single b d h g e =
    elim (cases_lt b 64) [
      | inl lt ↦ elim (cases_lt d 64) [
        | inl lt' ↦ omega (arith, ints, e, single_low b lt, single_low d lt')
        | inr le' ↦ absurd (omega (arith, ints, e, single_low b lt, single_high d le' g))
      ]
      | inr le ↦ elim (cases_lt d 64) [
        | inl lt' ↦ absurd (omega (arith, ints, e, single_high b le h, single_low d lt'))
        | inr le' ↦ omega (arith, ints, e, single_high b le h, single_high d le' g)
      ]
    ]

signed_one : (s t : List ℕ) → AreGroups s → AreGroups t → IsMinimalSigned s → IsMinimalSigned t → signed_sum s ≡ signed_sum t → s ≡ t
signed_one [] t h g k l e = absurd h
signed_one (b ∷ []) [] h g k l e = absurd g
signed_one (b ∷ []) (d ∷ []) h g k l e = ap (λ x. x ∷ []) (same_single b d h g e)
signed_one (b ∷ []) (d ∷ z ∷ t) h g k l e = absurd (no_padding b d z t h g l e)
signed_one (b ∷ c ∷ s) [] h g k l e = absurd g
signed_one (b ∷ c ∷ s) (d ∷ []) h g k l e = absurd (no_padding d b c s g h k (sym e))
signed_one (b ∷ c ∷ s) (d ∷ z ∷ t) h g k l e =
    ap₂ ◌∷◌ (omega (arith, ints, e, signed_step b c s, signed_step d z t, h.0, h.1, g.0, g.1))
    (signed_one (c ∷ s) (z ∷ t) h.2 g.2 (short_tail b c s k) (short_tail d z t l) (omega (arith, ints, e, signed_step b c s, signed_step d z t)))

-- Minimal groups of two or more bytes encode a number that needs them.
spread : (b c : ℕ) (s : List ℕ) → AreGroups (b ∷ c ∷ s) → IsMinimalSigned (b ∷ c ∷ s) → (pos (2 ^ (6 + 7 * length s)) ≤ℤ signed_sum (b ∷ c ∷ s)) ⊎ (signed_sum (b ∷ c ∷ s) <ℤ neg_ℤ (pos (2 ^ (6 + 7 * length s))))
spread b c [] h k =
    elim (cases_lt c 64) [
      | inl lt ↦ elim (cases_lt c 1) [
        | inl none ↦ inl (omega (arith, ints, signed_step b c [], single_low c lt, k.0 (omega arith)))
        | inr some ↦ inl (omega (arith, ints, signed_step b c [], single_low c lt))
      ]
      | inr le ↦ elim (cases_lt c 127) [
        | inl none ↦ inr (omega (arith, ints, signed_step b c [], single_high c le h.2))
        | inr some ↦ inr (omega (arith, ints, signed_step b c [], single_high c le h.2, k.1 (omega arith)))
      ]
    ]
spread b c (d ∷ s) h k =
    let power : 2 ^ (6 + 7 * length (d ∷ s)) ≡ 2 ^ 7 * 2 ^ (6 + 7 * length s) = ap (λ k. 2 ^ k) (omega arith) ∙ pow-add 2 7 (6 + 7 * length s) in
    elim (spread c d s h.2 k) [
      | inl le ↦ inl (omega (arith, ints, power, signed_step b c (d ∷ s)))
      | inr lt ↦ inr (omega (arith, ints, power, signed_step b c (d ∷ s)))
    ]

size_from_spread : (n bits : ℕ) → 2 ^ (6 + 7 * n) < 2 ^ (bits - 1) → n + 2 ≤ byte_limit bits
size_from_spread n bits h =
    elim (cases_lt (6 + 7 * n) (bits - 1)) [
      | inl lt ↦ omega arith
      | inr le ↦ absurd (omega (arith, h, pow-le-pow_right {n = 2} (omega arith) le))
    ]

short_signed_is_within : (bits : ℕ) (s : List ℕ) → 0 < bits → AreGroups s → IsMinimalSigned s → neg_ℤ (pos (2 ^ (bits - 1))) ≤ℤ signed_sum s → signed_sum s <ℤ pos (2 ^ (bits - 1)) → length s ≤ byte_limit bits
short_signed_is_within bits [] some h k l u = omega arith
short_signed_is_within bits (b ∷ []) some h k l u = omega arith
short_signed_is_within bits (b ∷ c ∷ s) some h k l u =
    let far : 2 ^ (6 + 7 * length s) < 2 ^ (bits - 1) =
    elim (spread b c s h k) [
      | inl le ↦ omega (arith, ints, le, u)
      | inr lt ↦ omega (arith, ints, lt, l)
    ] in
    omega (arith, size_from_spread (length s) bits far)

-- Minimal groups of the same number as `s`, which are no longer.
abbrev Shortened : List ℕ → Type 0
Shortened s = (t : List ℕ) × AreGroups t × (signed_sum t ≡ signed_sum s) × IsMinimalSigned t × (length t ≤ length s)

shortened_pair : (b d c : ℕ) (s : List ℕ) → AreGroups (b ∷ c ∷ s) → d < 128 → signed_sum (d ∷ []) ≡ signed_sum (c ∷ s) → Shortened (b ∷ c ∷ s)
shortened_pair b d c s h l e =
    elim (cases_lt (b % 128) 64) [
      | inl low ↦ elim (cases_eq d 0) [
        | inl z ↦ (b % 128 ∷ [], omega arith, omega (arith, ints, single_low (b % 128) low, signed_step b c s, e, single_low d (omega arith)), tt, omega arith)
        | inr nz ↦ (b ∷ d ∷ [], (h.0, h.1, l), omega (arith, ints, signed_step b c s, signed_step b d [], e), (λ z. absurd (nz z), λ z. low), omega arith)
      ]
      | inr high ↦ elim (cases_eq d 127) [
        | inl z ↦ (b % 128 ∷ [], omega arith, omega (arith, ints, single_high (b % 128) high (omega arith), signed_step b c s, e, single_high d (omega arith) l), tt, omega arith)
        | inr nz ↦ (b ∷ d ∷ [], (h.0, h.1, l), omega (arith, ints, signed_step b c s, signed_step b d [], e), (λ z. high, λ z. absurd (nz z)), omega arith)
      ]
    ]

shortened : (s : List ℕ) → AreGroups s → Shortened s
shortened [] h = absurd h
shortened (b ∷ []) h = (b ∷ [], h, refl, tt, le_refl 1)
shortened (b ∷ c ∷ s) h = go (shortened (c ∷ s) h.2)
  where
    go : Shortened (c ∷ s) → Shortened (b ∷ c ∷ s)
    go ([], g, e, k, l) = absurd g
    go (d ∷ [], g, e, k, l) = shortened_pair b d c s h g e
    go (d ∷ z ∷ t, g, e, k, l) = (b ∷ d ∷ z ∷ t, (h.0, h.1, g), omega (arith, ints, signed_step b c s, signed_step b d (z ∷ t), e), k, omega (arith, l))

-- ---- facts for the grammar

-- A number up to `n` has a minimal encoding no longer than any encoding of `n`.
abbrev pub ShortenLess : Format ℕ → Type 0
ShortenLess F = (w : Grammar) (s : List ℕ) (n v : ℕ) → v ≤ n → F (padded_of w) s n → (t : List ℕ) × F (minimal_of w) t v × (length t ≤ length s)

-- A property of pairs of modes holds of each pair in `Below` if it holds of the three.
pub below_cases : (P : Mode → Mode → Type 0) → P minimal padded → P standard_minimal standard → P padded standard → (m n : Mode) → Below m n → P m n
below_cases P a b c minimal padded h = a
below_cases P a b c standard_minimal standard h = b
below_cases P a b c padded standard h = c
below_cases P a b c m n h = absurd h

pub unsigned-less : (bits : ℕ) → 0 < bits → ShortenLess (λ mode. Unsigned mode bits)
unsigned-less bits some builders s n v l h =
    let t = lesser s v h.groups (omega (arith, h.total)) in
    (t.0, record { groups = t.1; total = t.2; range = omega (arith, h.range); size = t.3 }, t.4)
unsigned-less bits some admitted s n v l h =
    let t = lesser s v h.groups (omega (arith, h.total)) in
    (t.0, record { groups = t.1; total = t.2; range = omega (arith, h.range); size = t.3 }, t.4)

pub unsigned_unambiguous : (bits : ℕ) → 0 < bits → Unambiguous (λ mode. Unsigned mode bits)
unsigned_unambiguous bits some = record {
  unique = λ mode s t r q x y h g e.
      let a = groups_apart s t r q h.groups g.groups e in
      (sym h.total ∙ ap groups_sum a.0 ∙ g.total, a.0, a.1);
  encodings = record {
    one = one;
    included = below_cases (λ m n. IsIncludedIn (Unsigned m bits) (Unsigned n bits)) pads pads_tight (λ s x h. record { groups = h.groups; total = h.total; range = h.range; size = h.size });
    shorter = λ w s x h. unsigned-less bits some w s x x (le_refl x) h;
  };
}
  where
    one : (w : Grammar) → HasOneEncoding (Unsigned (minimal_of w) bits)
    one builders s t x h g = unsigned_one s t h.groups g.groups h.size g.size (h.total ∙ sym g.total)
    one admitted s t x h g = unsigned_one s t h.groups g.groups h.size g.size (h.total ∙ sym g.total)

    pads : IsIncludedIn (Unsigned minimal bits) (Unsigned padded bits)
    pads s x h = record { groups = h.groups; total = h.total; range = h.range; size = short_is_within bits s some h.groups (omega (arith, h.total, h.range)) h.size }

    pads_tight : IsIncludedIn (Unsigned standard_minimal bits) (Unsigned standard bits)
    pads_tight s x h = record { groups = h.groups; total = h.total; range = h.range; size = short_is_within bits s some h.groups (omega (arith, h.total, h.range)) h.size }

pub signed_unambiguous : (bits : ℕ) → 0 < bits → Unambiguous (λ mode. Signed mode bits)
signed_unambiguous bits some = record {
  unique = λ mode s t r q x y h g e.
      let a = groups_apart s t r q h.groups g.groups e in
      (sym h.total ∙ ap signed_sum a.0 ∙ g.total, a.0, a.1);
  encodings = record {
    one = one;
    included = below_cases (λ m n. IsIncludedIn (Signed m bits) (Signed n bits)) pads pads_tight (λ s x h. record { groups = h.groups; total = h.total; above = h.above; below = h.below; size = h.size });
    shorter = shorter;
  };
}
  where
    one : (w : Grammar) → HasOneEncoding (Signed (minimal_of w) bits)
    one builders s t x h g = signed_one s t h.groups g.groups h.size g.size (h.total ∙ sym g.total)
    one admitted s t x h g = signed_one s t h.groups g.groups h.size g.size (h.total ∙ sym g.total)

    pads : IsIncludedIn (Signed minimal bits) (Signed padded bits)
    pads s x h = record { groups = h.groups; total = h.total; above = h.above; below = h.below; size = short_signed_is_within bits s some h.groups h.size (rw h.total h.above) (rw h.total h.below) }

    pads_tight : IsIncludedIn (Signed standard_minimal bits) (Signed standard bits)
    pads_tight s x h = record { groups = h.groups; total = h.total; above = h.above; below = h.below; size = short_signed_is_within bits s some h.groups h.size (rw h.total h.above) (rw h.total h.below) }

    shorter : (w : Grammar) → ShrinksTo (Signed (padded_of w) bits) (Signed (minimal_of w) bits)
    shorter builders s x h =
        let t = shortened s h.groups in
        (t.0, record { groups = t.1; total = t.2 ∙ h.total; above = h.above; below = h.below; size = t.3 }, t.4)
    shorter admitted s x h =
        let t = shortened s h.groups in
        (t.0, record { groups = t.1; total = t.2 ∙ h.total; above = h.above; below = h.below; size = t.3 }, t.4)

pub u32_unambiguous : Unambiguous u32
u32_unambiguous = unsigned_unambiguous 32 (omega arith)

pub u32-less : ShortenLess u32
u32-less = unsigned-less 32 (omega arith)

-- A number below 128 has one byte in every mode.
pub u32_small : (mode : Mode) (n : ℕ) → n < 128 → u32 mode (n ∷ []) n
u32_small minimal n h = record { groups = h; total = omega arith; range = omega arith; size = inl refl }
u32_small padded n h = record { groups = h; total = omega arith; range = omega arith; size = omega arith }
u32_small standard_minimal n h = record { groups = h; total = omega arith; range = omega arith; size = inl refl }
u32_small standard n h = record { groups = h; total = omega arith; range = omega arith; size = omega arith }
