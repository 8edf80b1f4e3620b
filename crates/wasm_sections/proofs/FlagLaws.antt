-- This file proves that the byte of the flags determines each flag.
use Rattle.wasm_base.proofs.Words.{◌≡◌, ℕ, ◌+◌, ◌*◌, ◌/◌, ◌%◌, ◌^◌, ◌<◌, Bool, true, false, refl, arith, Unambiguous, coded_unambiguous}
use Rattle.wasm_immediates.proofs.Words.{where_set, bit}
use Rattle.wasm_sections.specs.Flags.{Flags}
use Rattle.wasm_sections.specs.{flags, flags_code}

-- A weight as a multiple of a bit.
pub weight_is : (set : Bool) (weight : ℕ) → where_set set weight ≡ weight * where_set set 1
weight_is true weight = omega arith
weight_is false weight = omega arith

pub bit_low : (set : Bool) → where_set set 1 < 2
bit_low true = omega arith
bit_low false = omega arith

pub bit_of : (segment_mode n : ℕ) (set : Bool) → n / 2 ^ segment_mode % 2 ≡ where_set set 1 → bit segment_mode n ≡ set
bit_of segment_mode n true e = rw e refl
bit_of segment_mode n false e = rw e refl

decode : ℕ → Flags
decode n = record { has_maximum = bit 0 n; shared = bit 1 n; is_64 = bit 2 n; has_page_size = bit 3 n }

back : (f : Flags) → decode (flags_code f) ≡ f
unfolding decode
back f =
    let n = flags_code f in
    let a = bit_low f.has_maximum in
    let b = bit_low f.shared in
    let c = bit_low f.is_64 in
    let d = bit_low f.has_page_size in
    let sum : n ≡ where_set f.has_maximum 1 + 2 * where_set f.shared 1 + 4 * where_set f.is_64 1 + 8 * where_set f.has_page_size 1 =
    omega (arith, weight_is f.shared 0x02, weight_is f.is_64 0x04, weight_is f.has_page_size 0x08) in
    let p : bit 0 n ≡ f.has_maximum = bit_of 0 n f.has_maximum (omega (arith, sum, a)) in
    let q : bit 1 n ≡ f.shared = bit_of 1 n f.shared (omega (arith, sum, a, b)) in
    let r : bit 2 n ≡ f.is_64 = bit_of 2 n f.is_64 (omega (arith, sum, a, b, c)) in
    let t : bit 3 n ≡ f.has_page_size = bit_of 3 n f.has_page_size (omega (arith, sum, a, b, c, d)) in
    λ i. record { has_maximum = p i; shared = q i; is_64 = r i; has_page_size = t i }

pub flags_unambiguous : Unambiguous flags
flags_unambiguous = coded_unambiguous flags_code decode back
