-- This file proves that the error of a decoder is the number in which it is kept.
use Rattle.wasm_base.proofs.Std.{◌≡◌, ◌≢◌, ℕ, ◌<◌, ◌^◌, refl, sym, subst, ap, ap₂, ◌∙◌, arith, ne_eqb}
use Rattle.std.proofs.lemmas.Nat.{mod-mul-add, div-mul-add}
use Rattle.wasm_base.specs.{Failure, cause_number, cause_numbered, word_of, failure_of, IsWord}
use Rattle.wasm_base.specs.declared.fault.ReadFault.{ReadFault}
use Rattle.wasm_base.specs.declared.fault.ReadFault.TheVariants.{Ended, NotShortest, TooLarge, UnknownTag, UnknownOpcode, NotUtf8, SizeMismatch, Memory}

-- A cause is that of its number, which is below 8.
pub cause_again : (c : ReadFault) → cause_numbered (cause_number c) ≡ c
cause_again Ended = refl
cause_again c = refl

pub number_small : (c : ReadFault) → cause_number c < 8
number_small Ended = omega arith
number_small c = omega arith

-- The failure of the number of a failure is the same failure.
pub failure_again : (f : Failure) → failure_of (word_of f) ≡ f
failure_again f =
    let small : cause_number f.cause < 256 = omega (arith, number_small f.cause) in
    ap₂ (λ c n. record { cause = c; left = n }) (ap cause_numbered (mod-mul-add f.left 256 (cause_number f.cause) small) ∙ cause_again f.cause) (div-mul-add f.left 256 (cause_number f.cause) small)

-- The number of a failure whose number of bytes left is below 2^32.
pub is_word : (f : Failure) → f.left < 2 ^ 32 → IsWord (word_of f)
is_word f h =
    let small : cause_number f.cause < 256 = omega (arith, number_small f.cause) in
    record {
      is_number = ap word_of (failure_again f);
      left = subst (λ n. n < 2 ^ 32) (sym (div-mul-add f.left 256 (cause_number f.cause) small)) h;
    }

-- A number above those of the other causes is that of `Memory`.
pub other_cause : (n : ℕ) → n ≢ 0 → n ≢ 1 → n ≢ 2 → n ≢ 3 → n ≢ 4 → n ≢ 5 → n ≢ 6 → cause_numbered n ≡ Memory
other_cause n a b c d e f g = rw (ne_eqb n 0 a, ne_eqb n 1 b, ne_eqb n 2 c, ne_eqb n 3 d, ne_eqb n 4 e, ne_eqb n 5 f, ne_eqb n 6 g)
