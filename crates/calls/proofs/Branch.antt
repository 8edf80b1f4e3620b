-- This file proves the bytes of a caller that encodes a branch, whose numbers have one byte each.
use Rattle.wasm_base.proofs.Words.{◌≡◌, ℕ, ◌<◌, ◌+◌, List, [], ◌∷◌, ◌++◌, length, false, pos, refl, ap, arith, append_assoc, length-append, signed_encoding, groups_encoding-last}

pub one_byte : (n : ℕ) → n < 0x40 → signed_encoding (pos n) ≡ n ∷ []
one_byte n h = groups_encoding-last false 0x40 n h

-- ---- the steps of the caller

pub after_constant : (old given new : List ℕ) → given ≡ old → new ≡ given ++ (0x41 ∷ (signed_encoding (pos 1) ++ [])) → new ≡ old ++ 0x41 ∷ 0x01 ∷ []
after_constant old given new same e = rw (e, same, one_byte 1 (omega arith)) refl

pub with_block : (old f1 given f2 f3 f4 : List ℕ) → f1 ≡ old ++ 0x41 ∷ 0x01 ∷ [] → given ≡ f1 → f2 ≡ given ++ 0x04 ∷ 0x40 ∷ [] → f3 ≡ f2 ++ 0x0B ∷ [] → f4 ≡ f3 ++ 0x0B ∷ []
    → f4 ≡ old ++ 0x41 ∷ 0x01 ∷ 0x04 ∷ 0x40 ∷ 0x0B ∷ 0x0B ∷ []
with_block old f1 given f2 f3 f4 a same b c d = rw (d, c, b, same, a) (simp append_assoc)

pub length_after : (old new : List ℕ) → new ≡ old ++ 0x41 ∷ 0x01 ∷ [] → length new ≡ length old + 2
length_after old new e = omega (arith, ap length e, length-append old (0x41 ∷ 0x01 ∷ []))
