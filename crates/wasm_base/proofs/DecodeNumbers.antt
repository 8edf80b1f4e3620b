-- This file proves how readers decode LEB128 groups to numbers.
use Rattle.wasm_base.proofs.Std.{◌≡◌, inl, inr, ℕ, ◌<◌, ◌^◌, List, [], ◌∷◌, length, ◌+◌, ◌-◌, ◌*◌, ◌%◌, ◌≤◌, ◌≢◌, ℤ, pos, neg_ℤ, ◌-ℤ◌, ◌≤ℤ◌, ◌<ℤ◌, cond, refl, sym, ap, ap₂, subst, ◌∙◌, add-one, arith}
use Rattle.wasm_base.proofs.Std.{mul-add, mul_assoc, mul-le-mul_left, pow-suc, pow-le-pow_right, lt-ltb, le-ltb, cases_lt, ints}
use Rattle.std.proofs.Common.{nat_lt}
use Rattle.wasm_base.specs.{Grammar, builders, admitted, padded, padded_of, Unsigned, Signed, signed_sum, groups_sum, byte_limit, u32, u64, s32, s64, s33, Decodes, Rejects, groups, HasGroups}
use Rattle.wasm_base.specs.{signed_of}
use Rattle.wasm_base.proofs.NumberLaws.{groups_apart}
use Rattle.wasm_base.proofs.GroupLaws.{groups_none, groups_ended, groups_last, groups_more, groups_less}
use Rattle.wasm_base.proofs.DecodingSteps.{front_and_rest}

-- ---- up to five groups, one after another

-- The state after `k` groups: the remaining groups complete the number, and there is no number if
-- they do not decode.
pub record HasBegun (k : ℕ) (bytes rest : List ℕ) (sum power : ℕ) : Type 0 where
  pub found : (s p l : ℕ) (last : List ℕ) → HasGroups (5 - k) rest s p l last → HasGroups 5 bytes (sum + power * s) (power * p) l last
  pub none : Rejects (groups (5 - k)) padded rest → Rejects (groups 5) padded bytes
  pub below : sum < power
  pub is : power ≡ 128 ^ k

pub begun_start : (bytes : List ℕ) → HasBegun 0 bytes bytes 0 1
begun_start bytes = record {
  found = λ s p l last h.
      let total : s ≡ 0 + 1 * s = omega arith in
      let count : p ≡ 1 * p = omega arith in
      subst (λ x. HasGroups 5 bytes x (1 * p) l last) total (subst (λ y. HasGroups 5 bytes s y l last) count h);
  none = λ n. n;
  below = omega arith;
  is = refl;
}

-- The next group adds less than the power of the groups before it.
group_below : (b n sum power : ℕ) → n ≡ b % 128 → sum < power → sum + power * n < power * 128
group_below b n sum power is l =
    let m : n ≤ 127 = omega (arith, is) in
    omega (arith, l, mul-le-mul_left power m)

power_small : (k power : ℕ) → k < 5 → power ≡ 128 ^ k → power * 128 ≤ 2 ^ 35
power_small k power l e =
    let p : 128 ^ k ≤ 128 ^ 4 = pow-le-pow_right (omega arith) {i = k} {j = 4} (omega (arith, l)) in
    omega (arith, e, p)

-- The next group is `b`, and `n` is its low seven bits.
module _ (k b n sum power : ℕ) (bytes rest : List ℕ) where
  pub begun_more : (after : List ℕ) → k < 5 → rest ≡ b ∷ after → 128 ≤ b → b < 256 → n ≡ b % 128 → HasBegun k bytes rest sum power → HasBegun (k + 1) bytes after (sum + power * n) (power * 128)
  begun_more after m e low high bits go = record {
    found = λ s p l last h.
        let inner : HasGroups (5 - k) rest (n + 128 * s) (128 * p) l last = groups_more (5 - (k + 1)) (5 - k) b s p l (n + 128 * s) (128 * p) rest after last e low high (omega (arith, m)) h (ap (λ z. z + 128 * s) bits) refl in
        let total : sum + power * (n + 128 * s) ≡ sum + power * n + power * 128 * s = omega (arith, mul-add power n (128 * s), mul_assoc power 128 s) in
        subst (λ x. HasGroups 5 bytes x (power * 128 * p) l last) total (subst (λ y. HasGroups 5 bytes (sum + power * (n + 128 * s)) y l last) (sym (mul_assoc power 128 p)) (go.found (n + 128 * s) (128 * p) l last inner));
    none = λ none. go.none (groups_less (5 - (k + 1)) (5 - k) b rest after e low (omega (arith, m)) none);
    below = group_below b n sum power bits go.below;
    is = ap (λ z. z * 128) go.is ∙ sym (subst (λ z. 128 ^ z ≡ 128 ^ k * 128) (sym (add-one k)) (pow-suc 128 k));
  }

  pub begun_last : (after : List ℕ) → k < 5 → rest ≡ b ∷ after → b < 128 → n ≡ b % 128 → HasBegun k bytes rest sum power → HasGroups 5 bytes (sum + power * n) (power * 128) b after
  begun_last after m e l bits go = go.found n 128 b after (groups_last (5 - k) b n rest after e l (omega (arith, m)) (omega (arith, l, bits)))

  pub begun_small : k < 5 → n ≡ b % 128 → HasBegun k bytes rest sum power → (sum + power * n < power * 128) × (power * 128 ≤ 2 ^ 35)
  begun_small m bits go = (group_below b n sum power bits go.below, power_small k power m go.is)

pub begun_ended : (k sum power : ℕ) (bytes rest : List ℕ) → rest ≡ [] → HasBegun k bytes rest sum power → Rejects (groups 5) padded bytes
begun_ended k sum power bytes rest e go = go.none (groups_ended (5 - k) rest e)

pub begun_all : (k sum power : ℕ) (bytes rest : List ℕ) → k ≡ 5 → HasBegun k bytes rest sum power → Rejects (groups 5) padded bytes
begun_all k sum power bytes rest e go =
    let none_left : 5 - k ≡ 0 = omega (arith, e) in
    go.none (subst (λ z. Rejects (groups z) padded rest) (sym none_left) (groups_none rest))

-- At most five groups are at most ten.
within_ten : {bytes rest : List ℕ} {sum power last : ℕ} → HasGroups 5 bytes sum power last rest → HasGroups 10 bytes sum power last rest
within_ten g =
    let h = g.read in
    record { front = g.front; read = record { front = h.front; split = h.split; encodes = (h.encodes.0, h.encodes.1, omega (arith, h.encodes.2)) }; total = g.total; count = g.count; end = g.end }

-- ---- unsigned numbers

-- Both grammars admit the same encodings of numbers.
unsigned_in : (w : Grammar) {bits : ℕ} {s : List ℕ} {v : ℕ} → Unsigned padded bits s v → Unsigned (padded_of w) bits s v
unsigned_in builders h = h
unsigned_in admitted h = record { groups = h.groups; total = h.total; range = h.range; size = h.size }

unsigned_size : (w : Grammar) {bits : ℕ} {s : List ℕ} {v : ℕ} → Unsigned (padded_of w) bits s v → length s ≤ byte_limit bits
unsigned_size builders h = h.size
unsigned_size admitted h = h.size

module _ (w : Grammar) (bits : ℕ) where
  unsigned_decodes : (bytes rest : List ℕ) (sum power last : ℕ) → HasGroups (byte_limit bits) bytes sum power last rest → sum < 2 ^ bits → Decodes (λ mode. Unsigned mode bits) (padded_of w) bytes sum rest
  unsigned_decodes bytes rest sum power last g l = record {
    front = g.read.front;
    split = g.read.split;
    encodes = unsigned_in w (record { groups = g.read.encodes.1; total = ap groups_sum g.read.encodes.0 ∙ g.total; range = l; size = g.read.encodes.2 });
  }

  unsigned_none : (bytes : List ℕ) → Rejects (groups (byte_limit bits)) padded bytes → Rejects (λ mode. Unsigned mode bits) (padded_of w) bytes
  unsigned_none bytes none = record { none = λ v rest h. none.none h.front rest (record { front = h.front; split = h.split; encodes = (refl, h.encodes.groups, unsigned_size w h.encodes) }) }

  unsigned_large : (bytes rest : List ℕ) (sum power last : ℕ) → HasGroups (byte_limit bits) bytes sum power last rest → 2 ^ bits ≤ sum → Rejects (λ mode. Unsigned mode bits) (padded_of w) bytes
  unsigned_large bytes rest sum power last h l = record {
    none = λ v q g.
        let same = groups_apart h.read.front g.front rest q h.read.encodes.1 g.encodes.groups (sym h.read.split ∙ g.split) in
        omega (arith, l, g.encodes.range, g.encodes.total, ap groups_sum same.0, ap groups_sum h.read.encodes.0, h.total);
  }

  unsigned_byte : (bytes rest : List ℕ) (b n : ℕ) → bytes ≡ b ∷ rest → b < 128 → n ≡ b → byte_limit bits ≢ 0 → 128 ≤ 2 ^ bits → Decodes (λ mode. Unsigned mode bits) (padded_of w) bytes n rest
  unsigned_byte bytes rest b n e l is some wide_enough = unsigned_decodes bytes rest n 128 b (groups_last (byte_limit bits) b n bytes rest e l some is) (omega (arith, l, is, wide_enough))

pub u32_decodes : (w : Grammar) (bytes rest : List ℕ) (sum power last : ℕ) → HasGroups 5 bytes sum power last rest → sum < 2 ^ 32 → Decodes u32 (padded_of w) bytes sum rest
u32_decodes w = unsigned_decodes w 32

pub u32_byte : (w : Grammar) (bytes rest : List ℕ) (b n : ℕ) → bytes ≡ b ∷ rest → b < 128 → n ≡ b → Decodes u32 (padded_of w) bytes n rest
u32_byte w bytes rest b n e l is = unsigned_byte w 32 bytes rest b n e l is (omega arith) (omega arith)

pub u32_none : (w : Grammar) (bytes : List ℕ) → Rejects (groups 5) padded bytes → Rejects u32 (padded_of w) bytes
u32_none w = unsigned_none w 32

pub u32_large : (w : Grammar) (bytes rest : List ℕ) (sum power last : ℕ) → HasGroups 5 bytes sum power last rest → 2 ^ 32 ≤ sum → Rejects u32 (padded_of w) bytes
u32_large w = unsigned_large w 32

pub ruleset u32_steps = (u32_decodes, u32_byte, u32_none, u32_large, front_and_rest)

pub u64_decodes : (w : Grammar) (bytes rest : List ℕ) (sum power last : ℕ) → HasGroups 10 bytes sum power last rest → sum < 2 ^ 64 → Decodes u64 (padded_of w) bytes sum rest
u64_decodes w = unsigned_decodes w 64

pub u64_byte : (w : Grammar) (bytes rest : List ℕ) (b n : ℕ) → bytes ≡ b ∷ rest → b < 128 → n ≡ b → Decodes u64 (padded_of w) bytes n rest
u64_byte w bytes rest b n e l is = unsigned_byte w 64 bytes rest b n e l is (omega arith) (omega arith)

pub u64_none : (w : Grammar) (bytes : List ℕ) → Rejects (groups 10) padded bytes → Rejects u64 (padded_of w) bytes
u64_none w = unsigned_none w 64

pub u64_large : (w : Grammar) (bytes rest : List ℕ) (sum power last : ℕ) → HasGroups 10 bytes sum power last rest → 2 ^ 64 ≤ sum → Rejects u64 (padded_of w) bytes
u64_large w = unsigned_large w 64

pub u64_few : (w : Grammar) (bytes rest : List ℕ) (sum power last : ℕ) → HasGroups 5 bytes sum power last rest → sum < power → power ≤ 2 ^ 35 → Decodes u64 (padded_of w) bytes sum rest
u64_few w bytes rest sum power last g l u = u64_decodes w bytes rest sum power last (within_ten g) (omega (arith, l, u))

pub ruleset u64_steps = (u64_decodes, u64_byte, u64_few, u64_none, u64_large, front_and_rest)

-- ---- signed numbers

-- The signed number of groups whose sign bit is clear, and of groups whose sign bit is set.
not_negative : (sum power last : ℕ) → last < 64 → signed_of sum power last ≡ pos sum
not_negative sum power last l = rw (lt-ltb last 64 l) refl

negative : (sum power last : ℕ) → 64 ≤ last → signed_of sum power last ≡ pos sum -ℤ pos power
negative sum power last l = rw (le-ltb last 64 l) refl

sum_of : {limit : ℕ} {bytes rest : List ℕ} {sum power last : ℕ} → (g : HasGroups limit bytes sum power last rest) → signed_sum g.read.front ≡ signed_of sum power last
sum_of {sum = sum} {power = power} {last = last} g =
    ap signed_sum g.read.encodes.0 ∙ ap (λ l. cond (nat_lt l 64) (pos (groups_sum g.front)) (pos (groups_sum g.front) -ℤ pos (128 ^ length g.front))) g.end
    ∙ ap₂ (λ s p. cond (nat_lt last 64) (pos s) (pos s -ℤ pos p)) g.total g.count

signed_in : (w : Grammar) {bits : ℕ} {s : List ℕ} {v : ℤ} → Signed padded bits s v → Signed (padded_of w) bits s v
signed_in builders h = h
signed_in admitted h = record { groups = h.groups; total = h.total; above = h.above; below = h.below; size = h.size }

signed_size : (w : Grammar) {bits : ℕ} {s : List ℕ} {v : ℤ} → Signed (padded_of w) bits s v → length s ≤ byte_limit bits
signed_size builders h = h.size
signed_size admitted h = h.size

module _ (w : Grammar) (bits : ℕ) where
  signed_decodes : (bytes rest : List ℕ) (sum power last : ℕ) → HasGroups (byte_limit bits) bytes sum power last rest → neg_ℤ (pos (2 ^ (bits - 1))) ≤ℤ signed_of sum power last → signed_of sum power last <ℤ pos (2 ^ (bits - 1))
      → Decodes (λ mode. Signed mode bits) (padded_of w) bytes (signed_of sum power last) rest
  signed_decodes bytes rest sum power last g l u = record {
    front = g.read.front;
    split = g.read.split;
    encodes = signed_in w (record { groups = g.read.encodes.1; total = sum_of g; above = l; below = u; size = g.read.encodes.2 });
  }

  signed_none : (bytes : List ℕ) → Rejects (groups (byte_limit bits)) padded bytes → Rejects (λ mode. Signed mode bits) (padded_of w) bytes
  signed_none bytes none = record { none = λ v rest h. none.none h.front rest (record { front = h.front; split = h.split; encodes = (refl, h.encodes.groups, signed_size w h.encodes) }) }

  -- No other value decodes from the groups.
  signed_is : (bytes rest : List ℕ) (sum power last : ℕ) → HasGroups (byte_limit bits) bytes sum power last rest → (v : ℤ) (q : List ℕ) → Decodes (λ mode. Signed mode bits) (padded_of w) bytes v q → v ≡ signed_of sum power last
  signed_is bytes rest sum power last h v q g =
      let same = groups_apart h.read.front g.front rest q h.read.encodes.1 g.encodes.groups (sym h.read.split ∙ g.split) in
      sym g.encodes.total ∙ ap signed_sum (sym same.0) ∙ sum_of h

  signed_low : (bytes rest : List ℕ) (sum power last : ℕ) → HasGroups (byte_limit bits) bytes sum power last rest → signed_of sum power last <ℤ neg_ℤ (pos (2 ^ (bits - 1))) → Rejects (λ mode. Signed mode bits) (padded_of w) bytes
  signed_low bytes rest sum power last h l = record { none = λ v q g. omega (arith, ints, l, g.encodes.above, signed_is bytes rest sum power last h v q g) }

  signed_high : (bytes rest : List ℕ) (sum power last : ℕ) → HasGroups (byte_limit bits) bytes sum power last rest → pos (2 ^ (bits - 1)) ≤ℤ signed_of sum power last → Rejects (λ mode. Signed mode bits) (padded_of w) bytes
  signed_high bytes rest sum power last h l = record { none = λ v q g. omega (arith, ints, l, g.encodes.below, signed_is bytes rest sum power last h v q g) }

pub s32_decodes : (w : Grammar) (bytes rest : List ℕ) (sum power last : ℕ) (v : ℤ) → HasGroups 5 bytes sum power last rest → v ≡ signed_of sum power last → neg_ℤ (pos (2 ^ 31)) ≤ℤ v → v <ℤ pos (2 ^ 31) → Decodes s32 (padded_of w) bytes v rest
s32_decodes w bytes rest sum power last v g e l u = subst (λ z. Decodes s32 (padded_of w) bytes z rest) (sym e) (signed_decodes w 32 bytes rest sum power last g (rw e at l) (rw e at u))

pub s32_none : (w : Grammar) (bytes : List ℕ) → Rejects (groups 5) padded bytes → Rejects s32 (padded_of w) bytes
s32_none w = signed_none w 32

pub s32_low : (w : Grammar) (bytes rest : List ℕ) (sum power last : ℕ) (v : ℤ) → HasGroups 5 bytes sum power last rest → v ≡ signed_of sum power last → v <ℤ neg_ℤ (pos (2 ^ 31)) → Rejects s32 (padded_of w) bytes
s32_low w bytes rest sum power last v g e l = signed_low w 32 bytes rest sum power last g (rw e at l)

pub s32_high : (w : Grammar) (bytes rest : List ℕ) (sum power last : ℕ) (v : ℤ) → HasGroups 5 bytes sum power last rest → v ≡ signed_of sum power last → pos (2 ^ 31) ≤ℤ v → Rejects s32 (padded_of w) bytes
s32_high w bytes rest sum power last v g e l = signed_high w 32 bytes rest sum power last g (rw e at l)

-- One group is in the range of 32 bits.
signed_small : (b : ℕ) → b < 128 → (neg_ℤ (pos (2 ^ 31)) ≤ℤ signed_of b 128 b) × (signed_of b 128 b <ℤ pos (2 ^ 31))
signed_small b l =
    elim (cases_lt b 64) [
      | inl low ↦ let is = not_negative b 128 b low in (omega (arith, ints, is), omega (arith, ints, is, low))
      | inr high ↦ let is = negative b 128 b high in (omega (arith, ints, is), omega (arith, ints, is, l))
    ]

pub s32_byte : (w : Grammar) (bytes rest : List ℕ) (b : ℕ) (v : ℤ) → bytes ≡ b ∷ rest → b < 128 → v ≡ signed_of b 128 b → Decodes s32 (padded_of w) bytes v rest
s32_byte w bytes rest b v e l is =
    let small = signed_small b l in
    s32_decodes w bytes rest b 128 b v (groups_last 5 b b bytes rest e l (omega arith) refl) is (omega (arith, ints, is, small.0)) (omega (arith, ints, is, small.1))

pub ruleset s32_steps = (s32_decodes, s32_byte, s32_none, s32_low, s32_high, front_and_rest)

pub s64_decodes : (w : Grammar) (bytes rest : List ℕ) (sum power last : ℕ) (v : ℤ) → HasGroups 10 bytes sum power last rest → v ≡ signed_of sum power last → neg_ℤ (pos (2 ^ 63)) ≤ℤ v → v <ℤ pos (2 ^ 63) → Decodes s64 (padded_of w) bytes v rest
s64_decodes w bytes rest sum power last v g e l u = subst (λ z. Decodes s64 (padded_of w) bytes z rest) (sym e) (signed_decodes w 64 bytes rest sum power last g (rw e at l) (rw e at u))

pub s64_none : (w : Grammar) (bytes : List ℕ) → Rejects (groups 10) padded bytes → Rejects s64 (padded_of w) bytes
s64_none w = signed_none w 64

pub s64_low : (w : Grammar) (bytes rest : List ℕ) (sum power last : ℕ) (v : ℤ) → HasGroups 10 bytes sum power last rest → v ≡ signed_of sum power last → v <ℤ neg_ℤ (pos (2 ^ 63)) → Rejects s64 (padded_of w) bytes
s64_low w bytes rest sum power last v g e l = signed_low w 64 bytes rest sum power last g (rw e at l)

pub s64_high : (w : Grammar) (bytes rest : List ℕ) (sum power last : ℕ) (v : ℤ) → HasGroups 10 bytes sum power last rest → v ≡ signed_of sum power last → pos (2 ^ 63) ≤ℤ v → Rejects s64 (padded_of w) bytes
s64_high w bytes rest sum power last v g e l = signed_high w 64 bytes rest sum power last g (rw e at l)

pub s64_byte : (w : Grammar) (bytes rest : List ℕ) (b : ℕ) (v : ℤ) → bytes ≡ b ∷ rest → b < 128 → v ≡ signed_of b 128 b → Decodes s64 (padded_of w) bytes v rest
s64_byte w bytes rest b v e l is =
    let small = signed_small b l in
    s64_decodes w bytes rest b 128 b v (groups_last 10 b b bytes rest e l (omega arith) refl) is (omega (arith, ints, is, small.0)) (omega (arith, ints, is, small.1))

-- A few groups are in the range of 64 bits.
pub s64_few : (w : Grammar) (bytes rest : List ℕ) (sum power last : ℕ) (v : ℤ) → HasGroups 5 bytes sum power last rest → sum < power → power ≤ 2 ^ 35 → v ≡ signed_of sum power last → Decodes s64 (padded_of w) bytes v rest
s64_few w bytes rest sum power last v g l u is =
    elim (cases_lt last 64) [
      | inl low ↦ let e = is ∙ not_negative sum power last low in s64_decodes w bytes rest sum power last v (within_ten g) is (omega (arith, ints, e)) (omega (arith, ints, e, l, u))
      | inr high ↦ let e = is ∙ negative sum power last high in s64_decodes w bytes rest sum power last v (within_ten g) is (omega (arith, ints, e, u)) (omega (arith, ints, e, l))
    ]

pub ruleset s64_steps = (s64_decodes, s64_byte, s64_few, s64_none, s64_low, s64_high, front_and_rest)

-- ---- indices that are encoded as signed numbers

pub index_decodes : (w : Grammar) (bytes rest : List ℕ) (sum power last : ℕ) → HasGroups 5 bytes sum power last rest → last < 64 → sum < 2 ^ 32 → Decodes s33 (padded_of w) bytes sum rest
index_decodes w bytes rest sum power last g l u =
    let is = not_negative sum power last l in
    let r = signed_decodes w 33 bytes rest sum power last g (omega (arith, ints, is)) (omega (arith, ints, is, u)) in
    record { front = r.front; split = r.split; encodes = subst (λ z. Signed (padded_of w) 33 r.front z) is r.encodes }

as_signed : (w : Grammar) (bytes rest : List ℕ) (n : ℕ) → Decodes s33 (padded_of w) bytes n rest → Decodes (λ mode. Signed mode 33) (padded_of w) bytes (pos n) rest
as_signed w bytes rest n h = record { front = h.front; split = h.split; encodes = h.encodes }

pub index_none : (w : Grammar) (bytes : List ℕ) → Rejects (groups 5) padded bytes → Rejects s33 (padded_of w) bytes
index_none w bytes none = record { none = λ n rest h. (signed_none w 33 bytes none).none (pos n) rest (as_signed w bytes rest n h) }

pub index_large : (w : Grammar) (bytes rest : List ℕ) (sum power last : ℕ) → HasGroups 5 bytes sum power last rest → last < 64 → 2 ^ 32 ≤ sum → Rejects s33 (padded_of w) bytes
index_large w bytes rest sum power last g l u = record {
  none = λ n q h. omega (arith, ints, u, h.encodes.below, signed_is w 33 bytes rest sum power last g (pos n) q (as_signed w bytes q n h), not_negative sum power last l);
}

pub index_negative : (w : Grammar) (bytes rest : List ℕ) (sum power last : ℕ) → HasGroups 5 bytes sum power last rest → 64 ≤ last → sum < power → Rejects s33 (padded_of w) bytes
index_negative w bytes rest sum power last g l u = record {
  none = λ n q h. omega (arith, ints, u, signed_is w 33 bytes rest sum power last g (pos n) q (as_signed w bytes q n h), negative sum power last l);
}

pub ruleset index_steps = (index_decodes, index_none, index_large, index_negative)
