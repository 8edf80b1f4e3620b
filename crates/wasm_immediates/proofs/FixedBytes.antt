-- This file proves that the library encodes fixed-width numbers as the definitions do.
use Rattle.wasm_base.proofs.Words.{◌≡◌, ℕ, zero, suc, ◌/◌, ◌%◌, ◌^◌, ◌∷◌, refl, ap, ap₂, ◌∙◌, arith, ℤ, pos, negsuc, pow-suc, div-div-eq-div-mul, w32, w64, w128, to_le_bytes, byte_at, bytes_low_first}
use Rattle.wasm_base.proofs.Words.{cast_unsigned, little_endian_encoding, twos_complement}
use Rattle.wasm_immediates.specs.{vector_encoding}

byte_at-is : (i n : ℕ) → byte_at i n ≡ n / 256 ^ i % 256
byte_at-is zero n = omega arith
byte_at-is (suc i) n = refl

low_first : (i k n : ℕ) → bytes_low_first i k n ≡ little_endian_encoding k (n / 256 ^ i)
low_first i zero n = refl
low_first i (suc k) n =
    let next : n / 256 ^ suc i ≡ n / 256 ^ i / 256 = rw (pow-suc 256 i, div-div-eq-div-mul n (256 ^ i) 256) refl in
    ap₂ ◌∷◌ (byte_at-is i n) (low_first (suc i) k n ∙ ap (little_endian_encoding k) next)

from_first : (k n : ℕ) → bytes_low_first 0 k n ≡ little_endian_encoding k n
from_first k n = let whole : n / 256 ^ 0 ≡ n = omega arith in low_first 0 k n ∙ ap (little_endian_encoding k) whole

pub four_bytes : (n : ℕ) → to_le_bytes w32 n ≡ little_endian_encoding 4 n
four_bytes n = from_first 4 n

pub eight_bytes : (n : ℕ) → to_le_bytes w64 n ≡ little_endian_encoding 8 n
eight_bytes n = from_first 8 n

pub sixteen_bytes : (n : ℕ) → to_le_bytes w128 n ≡ little_endian_encoding 16 n
sixteen_bytes n = from_first 16 n

-- The bytes of a vector.
pub vector_bytes : (v : ℤ) → to_le_bytes w128 (cast_unsigned w128 v) ≡ vector_encoding v
unfolding vector_encoding
vector_bytes (pos n) = sixteen_bytes n
vector_bytes (negsuc n) = sixteen_bytes (twos_complement 128 (negsuc n))
