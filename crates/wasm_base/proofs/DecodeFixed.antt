-- This file proves that the library decodes fixed-width numbers as the definitions encode them.
use Rattle.wasm_base.proofs.Std.{◌≡◌, inl, inr, ℕ, zero, suc, ◌-◌, ◌^◌, ◌<◌, ◌≤◌, List, [], ◌∷◌, ◌++◌, length, take, drop, slice_index_or, ℤ, refl, sym, ap, subst, ◌∙◌, arith, cases_lt}
use Rattle.wasm_base.proofs.Std.{take-append-drop, length-take-le, pow-suc, w32, w64, w128, from_le_bytes, cast_signed, to_z_pos, to_z-neg}
use Rattle.std.proofs.lemmas.List.{length-append}
use Rattle.wasm_base.specs.{Mode, little_endian, raw_bytes, bytes_sum, AreBytes, twos_complement, vector_format, IsVector, Decodes, Rejects}

pub are_bytes : (bytes : List ℕ) → ((k : ℕ) → slice_index_or bytes k 0 < 256) → AreBytes bytes
are_bytes [] h = tt
are_bytes (b ∷ bytes) h = (h 0, are_bytes bytes (λ k. h (suc k)))

take_bytes : (n : ℕ) (bytes : List ℕ) → AreBytes bytes → AreBytes (take n bytes)
take_bytes zero bytes h = tt
take_bytes (suc n) [] h = tt
take_bytes (suc n) (b ∷ bytes) h = (h.0, take_bytes n bytes h.1)

sum_4 : (s : List ℕ) → length s ≡ 4 → from_le_bytes w32 s ≡ bytes_sum s
sum_4 (a ∷ b ∷ c ∷ d ∷ []) e = omega arith
sum_4 _ e = absurd (omega arith)

sum_8 : (s : List ℕ) → length s ≡ 8 → from_le_bytes w64 s ≡ bytes_sum s
sum_8 (a ∷ b ∷ c ∷ d ∷ e ∷ f ∷ g ∷ h ∷ []) l = omega arith
sum_8 _ e = absurd (omega arith)

sum_16 : (s : List ℕ) → length s ≡ 16 → from_le_bytes w128 s ≡ bytes_sum s
sum_16 (a ∷ b ∷ c ∷ d ∷ e ∷ f ∷ g ∷ h ∷ i ∷ j ∷ k ∷ l ∷ m ∷ n ∷ o ∷ p ∷ []) q = omega arith
sum_16 _ e = absurd (omega arith)

pub sum_below : (s : List ℕ) → AreBytes s → bytes_sum s < 256 ^ length s
sum_below [] h = omega arith
sum_below (b ∷ s) h = omega (arith, h.0, sum_below s h.1, pow-suc 256 (length s))

chunk_decodes : {m : Mode} (n v : ℕ) (bytes front rest : List ℕ) → AreBytes bytes → n ≤ length bytes → front ≡ take n bytes → rest ≡ drop n bytes → bytes_sum front ≡ v → Decodes (little_endian n) m bytes v rest
chunk_decodes n v bytes front rest h l e f is = record {
  front = take n bytes;
  split = sym (take-append-drop n bytes) ∙ ap (λ z. take n bytes ++ z) (sym f);
  encodes = (ap bytes_sum (sym e) ∙ is, take_bytes n bytes h, length-take-le n bytes l);
}

pub chunk_short : {m : Mode} (n : ℕ) (bytes : List ℕ) → length bytes < n → Rejects (little_endian n) m bytes
chunk_short n bytes l = record { none = λ v rest h. omega (arith, l, h.encodes.2, ap length h.split, length-append h.front rest) }

length_of : (n : ℕ) (bytes front : List ℕ) → n ≤ length bytes → front ≡ take n bytes → length front ≡ n
length_of n bytes front l e = ap length e ∙ length-take-le n bytes l

pub four_read : {m : Mode} (v : ℕ) (bytes front rest : List ℕ) → AreBytes bytes → front ≡ take 4 bytes → rest ≡ drop 4 bytes → 4 ≤ length bytes → v ≡ from_le_bytes w32 front → Decodes (little_endian 4) m bytes v rest
four_read v bytes front rest h e f l is = chunk_decodes 4 v bytes front rest h l e f (sym (is ∙ sum_4 front (length_of 4 bytes front l e)))

pub eight_read : {m : Mode} (v : ℕ) (bytes front rest : List ℕ) → AreBytes bytes → front ≡ take 8 bytes → rest ≡ drop 8 bytes → 8 ≤ length bytes → v ≡ from_le_bytes w64 front → Decodes (little_endian 8) m bytes v rest
eight_read v bytes front rest h e f l is = chunk_decodes 8 v bytes front rest h l e f (sym (is ∙ sum_8 front (length_of 8 bytes front l e)))

-- A number of 128 bits is the two's complement of its signed value.
signed_128 : (n : ℕ) (v : ℤ) → n < 2 ^ 128 → v ≡ cast_signed w128 n → (twos_complement 128 v ≡ n) × IsVector v
signed_128 n v l e =
    elim (cases_lt n (2 ^ 127)) [
      | inl low ↦ subst (λ z. (twos_complement 128 z ≡ n) × IsVector z) (sym (e ∙ to_z_pos w128 low)) (refl, low)
      | inr high ↦
          let k = 2 ^ 128 - 1 - n in
          let small : k < 2 ^ 127 = omega arith in
          let is : n ≡ 2 ^ 128 - suc k = omega arith in
          subst (λ z. (twos_complement 128 z ≡ n) × IsVector z) (sym (e ∙ ap (cast_signed w128) is ∙ to_z-neg w128 k small)) (sym is, small)
    ]

pub sixteen_read : {m : Mode} (v : ℤ) (bytes front rest : List ℕ) → AreBytes bytes → front ≡ take 16 bytes → rest ≡ drop 16 bytes → 16 ≤ length bytes → v ≡ cast_signed w128 (from_le_bytes w128 front) → Decodes vector_format m bytes v rest
sixteen_read {m = m} v bytes front rest h e f l is =
    let sum = sum_16 front (length_of 16 bytes front l e) in
    let small : bytes_sum front < 2 ^ 128 = omega (arith, sum_below front (subst AreBytes (sym e) (take_bytes 16 bytes h)), ap (λ n. 256 ^ n) (length_of 16 bytes front l e)) in
    let same = signed_128 (bytes_sum front) v small (is ∙ ap (cast_signed w128) sum) in
    let r = chunk_decodes {m = m} 16 (bytes_sum front) bytes front rest h l e f refl in
    record { front = r.front; split = r.split; encodes = (subst (λ n. little_endian 16 m r.front n) (sym same.0) r.encodes, same.1) }

pub sixteen_short : {m : Mode} (bytes : List ℕ) → length bytes < 16 → Rejects vector_format m bytes
sixteen_short {m = m} bytes l = record { none = λ v rest h. (chunk_short {m = m} 16 bytes l).none (twos_complement 128 v) rest (record { front = h.front; split = h.split; encodes = h.encodes.0 }) }

pub raw_read : {m : Mode} (n : ℕ) (bytes front rest : List ℕ) → front ≡ take n bytes → rest ≡ drop n bytes → n ≤ length bytes → Decodes (raw_bytes n) m bytes front rest
raw_read n bytes front rest e f l = record { front = front; split = sym (take-append-drop n bytes) ∙ ap (λ z. z ++ drop n bytes) (sym e) ∙ ap (λ z. front ++ z) (sym f); encodes = (refl, length_of n bytes front l e) }

pub raw_short : {m : Mode} (n : ℕ) (bytes : List ℕ) → length bytes < n → Rejects (raw_bytes n) m bytes
raw_short n bytes l = record { none = λ v rest h. omega (arith, l, h.encodes.1, ap length h.encodes.0, ap length h.split, length-append h.front rest) }

pub ruleset raw_steps = (raw_read, raw_short)
