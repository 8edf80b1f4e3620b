-- This file proves that small numbers have one byte.
use Rattle.wasm_base.proofs.Words.{◌≡◌, ℕ, ◌<◌, [], ◌∷◌, false, unsigned_encoding, one_group}

pub one_byte : (n : ℕ) → n < 0x80 → unsigned_encoding n ≡ n ∷ []
one_byte n h = one_group false 0x80 n h
