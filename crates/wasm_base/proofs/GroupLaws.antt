-- This file proves how LEB128 groups decode and how large their sums are.
use Rattle.wasm_base.proofs.Std.{◌≡◌, ℕ, ◌<◌, ◌%◌, ◌*◌, ◌^◌, List, [], ◌∷◌, ◌++◌, length, add-one, ◌+◌, ◌-◌, ◌≤◌, ◌≢◌, Result, Ok, Err, IfErr, refl, sym, ap, subst, ◌∙◌, arith, pow-suc}
use Rattle.wasm_base.proofs.Std.{pow-le-pow_right}
use Rattle.wasm_base.specs.{padded, AreGroups, last_byte, Rejects, groups, HasGroups}

-- ---- groups

pub groups_none : (bytes : List ℕ) → Rejects (groups 0) padded bytes
groups_none bytes = record { none = λ x rest h. empty h.front h.encodes.1 h.encodes.2 }
  where
    empty : (s : List ℕ) → AreGroups s → length s ≤ 0 → ⊥
    empty [] h l = h
    empty (b ∷ s) h l = omega arith

pub groups_ended : (limit : ℕ) (bytes : List ℕ) → bytes ≡ [] → Rejects (groups limit) padded bytes
groups_ended limit bytes e = record { none = λ x rest h. empty h.front rest h.encodes.1 (sym e ∙ h.split) }
  where
    empty : (s rest : List ℕ) → AreGroups s → [] ≡ s ++ rest → ⊥
    empty [] rest h f = h
    empty (b ∷ s) rest h f = absurd (cc f)

pub groups_last : (limit b n : ℕ) (bytes rest : List ℕ) → bytes ≡ b ∷ rest → b < 128 → limit ≢ 0 → n ≡ b → HasGroups limit bytes n 128 b rest
groups_last limit b n bytes rest e l m is = record {
  front = b ∷ [];
  read = record { front = b ∷ []; split = e; encodes = (refl, l, omega (arith, m)) };
  total = omega (arith, l, is);
  count = refl;
  end = refl;
}

more_groups : (b : ℕ) (s : List ℕ) → 128 ≤ b → b < 256 → AreGroups s → AreGroups (b ∷ s)
more_groups b [] l u h = absurd h
more_groups b (c ∷ s) l u h = (l, u, h)

last_more : (b : ℕ) (s : List ℕ) → AreGroups s → last_byte (b ∷ s) ≡ last_byte s
last_more b [] h = absurd h
last_more b (c ∷ s) h = refl

pub groups_more : (less limit b sum power last total count : ℕ) (bytes rest after : List ℕ) → bytes ≡ b ∷ rest → 128 ≤ b → b < 256 → limit ≡ less + 1
    → HasGroups less rest sum power last after → total ≡ b % 128 + 128 * sum → count ≡ 128 * power → HasGroups limit bytes total count last after
groups_more less limit b sum power last total count bytes rest after e l u k g is times =
    let s = g.front in
    let h = g.read in
    let are = subst AreGroups h.encodes.0 h.encodes.1 in
    record {
      front = b ∷ s;
      read = record {
        front = b ∷ s;
        split = e ∙ ap (λ z. b ∷ z) (subst (λ z. rest ≡ z ++ after) h.encodes.0 h.split);
        encodes = (refl, more_groups b s l u are, omega (arith, ap length h.encodes.0, h.encodes.2));
      };
      total = ap (λ z. b % 128 + 128 * z) g.total ∙ sym is;
      count = omega (arith, pow-suc 128 (length s), g.count, times);
      end = last_more b s are ∙ g.end;
    }

pub groups_less : (less limit b : ℕ) (bytes rest : List ℕ) → bytes ≡ b ∷ rest → 128 ≤ b → limit ≡ less + 1 → Rejects (groups less) padded rest → Rejects (groups limit) padded bytes
groups_less less limit b bytes rest e l m none = record { none = λ x last h. go h.front last (sym e ∙ h.split) h.encodes.1 h.encodes.2 }
  where
    go : (s last : List ℕ) → b ∷ rest ≡ s ++ last → AreGroups s → length s ≤ limit → ⊥
    go [] last f h g = h
    go (c ∷ []) last f h g = let same : b ≡ c = cc f in omega (arith, same)
    go (c ∷ d ∷ s) last f h g = none.none (d ∷ s) last (record { front = d ∷ s; split = cc f; encodes = (refl, h.2, omega arith) })

pub ruleset group_steps = (groups_none, groups_ended)

-- ---- bounds

power_more : (n k : ℕ) → n ^ (k + 1) ≡ n ^ k * n
power_more n k = subst (λ z. n ^ z ≡ n ^ k * n) (sym (add-one k)) (pow-suc n k)

power_encodable : (limit less power : ℕ) → limit ≡ less + 1 → power ≤ 128 ^ less → 128 * power ≤ 128 ^ limit
power_encodable limit less power e l = rw e (omega (arith, l, power_more 128 less))

pub power_encodable_more : (limit power : ℕ) → limit ≢ 0 → power ≤ 128 ^ (limit - 1) → 128 * power ≤ 128 ^ limit
power_encodable_more limit power e l = power_encodable limit (limit - 1) power (omega arith) l

pub one_encodable : (limit b : ℕ) → limit ≢ 0 → b ≤ 128 → b ≤ 128 ^ limit
one_encodable limit b e l =
    let p : 128 ^ 1 ≤ 128 ^ limit = pow-le-pow_right (omega arith) {i = 1} {j = limit} (omega arith) in
    omega (arith, p)

pub within_70 : (limit n : ℕ) → limit ≤ 10 → n ≤ 128 ^ limit → n ≤ 2 ^ 70
within_70 limit n m l =
    let p : 128 ^ limit ≤ 128 ^ 10 = pow-le-pow_right (omega arith) m in
    omega (arith, l, p)

pub if_err_any : {T E : Type 0} (r : Result T E) {P : Type 0} → P → IfErr r (λ e. P)
if_err_any (Ok x) p = tt
if_err_any (Err e) p = p
