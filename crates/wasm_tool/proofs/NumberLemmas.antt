-- This file proves the result of `parse` for a word that does not begin with a plus sign.
use Rattle.wasm_base.proofs.Words.{◌≡◌, ◌≢◌, ℕ, ◌<◌, ◌≤◌, ◌^◌, Bool, true, false, ◌&&◌, cond, List, [], ◌∷◌, length, get_or, suc, ℤ, pos, neg_ℤ, ◌-◌, ◌==◌, Some, None, Result, Ok, Err, refl, ap, sym}
use Rattle.wasm_base.proofs.Words.{subst, ◌∙◌, eq-eqb, arith, MatchResult, nat_lt, OkIff, all_ascii_digits, ParsesUnsigned, ParsesSigned, digits_value, and_parts, lt-ltb, ltb-true, numerals_by_value}
use Rattle.wasm_base.proofs.Words.{parse_plain, parse_signed_minus, parse_signed_plain, tells_all_ascii_digits}
use Rattle.std.specs.Prelude.{option_map}
use Rattle.wasm_tool.specs.{is_word, below, decimal_of, value_of, at_most, signed_of}
use borrow.Author.Tests.{ne_eqb, eqb-true}
use mir.Syntax.{w32}

is_word-some : (word : List ℕ) → 0 < length word → is_word word ≡ true
is_word-some [] h = absurd (omega arith)
is_word-some (b ∷ bs) h = refl

some_from_is_word : (word : List ℕ) → is_word word ≡ true → 0 < length word
some_from_is_word [] h = cc
some_from_is_word (b ∷ bs) h = omega arith

none_unless : (b : Bool) (n : ℕ) → ¬ (b ≡ true) → cond b (Some n) None ≡ None
none_unless true n h = absurd (h refl)
none_unless false n h = refl

none_below : (bits : ℕ) (b : Bool) (n : ℕ) → (b ≡ true → ¬ (nat_lt n (2 ^ bits) ≡ true)) → below bits (cond b (Some n) None) ≡ None
none_below bits true n h = none_unless (nat_lt n (2 ^ bits)) n (h refl)
none_below bits false n h = refl

pub decimal_of-parse : {E : Type 0} (bits : ℕ) (word : List ℕ) (r : Result ℕ E) → ParsesUnsigned bits 10 word r → get_or word 0 0 ≢ 43
    → MatchResult r (λ n. decimal_of bits word ≡ Some n) (λ _. decimal_of bits word ≡ None)
decimal_of-parse {E} bits word (Ok n) parsed plain =
    let says = parse_plain (numerals_by_value _ tells_all_ascii_digits) {E = E} bits word (Ok n) parsed plain in
    let word_is = is_word-some word says.0.1 in
    let digits = says.0.0 in
    let low = lt-ltb (digits_value 10 word) (2 ^ bits) says.0.2 in
    rw (word_is, digits, low) (ap Some (sym says.1))
decimal_of-parse {E} bits word (Err e) parsed plain =
    let says = parse_plain (numerals_by_value _ tells_all_ascii_digits) {E = E} bits word (Err e) parsed plain in
    none_below bits (is_word word && all_ascii_digits word) (digits_value 10 word) (λ spells low.
    let parts = and_parts (is_word word) (all_ascii_digits word) spells in
    says (parts.1, some_from_is_word word parts.0, ltb-true (digits_value 10 word) (2 ^ bits) low))

-- ---- a number of 64 bits as one of 32

-- ---- a signed number

none_at_most : (most : ℕ) (b : Bool) (n : ℕ) → (b ≡ true → ¬ (nat_lt n (suc most) ≡ true)) → at_most most (cond b (Some n) None) ≡ None
none_at_most most true n h = none_unless (nat_lt n (suc most)) n (h refl)
none_at_most most false n h = refl

-- The value of digits up to a bound, and none for other words.
value_at_most : (most : ℕ) (word : List ℕ) → all_ascii_digits word ≡ true → 0 < length word → digits_value 10 word ≤ most → at_most most (value_of word) ≡ Some (digits_value 10 word)
value_at_most most word digits some low =
    let word_is = is_word-some word some in
    let small = lt-ltb (digits_value 10 word) (suc most) (omega (arith, low)) in
    rw (word_is, digits, small) refl

no_value_at_most : (most : ℕ) (word : List ℕ) → ¬ ((all_ascii_digits word ≡ true) × (0 < length word) × (digits_value 10 word ≤ most)) → at_most most (value_of word) ≡ None
no_value_at_most most word says =
    none_at_most most (is_word word && all_ascii_digits word) (digits_value 10 word) (λ spells low.
    let parts = and_parts (is_word word) (all_ascii_digits word) spells in
    says (parts.1, some_from_is_word word parts.0, omega (arith, ltb-true (digits_value 10 word) (suc most) low)))

minus_first : (c : ℕ) (cs : List ℕ) → c ≡ 45 → signed_of (c ∷ cs) ≡ option_map (λ n. neg_ℤ (pos n)) (at_most (2 ^ 31) (value_of cs))
minus_first c cs e = subst (λ d. signed_of (d ∷ cs) ≡ option_map (λ n. neg_ℤ (pos n)) (at_most (2 ^ 31) (value_of cs))) (sym e) refl

other_first : (c : ℕ) (cs : List ℕ) → c ≢ 45 → signed_of (c ∷ cs) ≡ option_map pos (at_most (2 ^ 31 - 1) (value_of (c ∷ cs)))
other_first c cs n = ap (λ b. cond b (option_map (λ m. neg_ℤ (pos m)) (at_most (2 ^ 31) (value_of cs))) (option_map pos (at_most (2 ^ 31 - 1) (value_of (c ∷ cs))))) (ne_eqb c 45 n)

module _ {E : Type 0} where
  behind_minus : (cs : List ℕ) (r : Result ℤ E) → OkIff r ((all_ascii_digits cs ≡ true) × (0 < length cs) × (digits_value 10 cs ≤ 2 ^ 31)) (neg_ℤ (pos (digits_value 10 cs)))
      → MatchResult r (λ z. option_map (λ n. neg_ℤ (pos n)) (at_most (2 ^ 31) (value_of cs)) ≡ Some z) (λ _. option_map (λ n. neg_ℤ (pos n)) (at_most (2 ^ 31) (value_of cs)) ≡ None)
  behind_minus cs (Ok z) says = ap (option_map (λ n. neg_ℤ (pos n))) (value_at_most (2 ^ 31) cs says.0.0 says.0.1 says.0.2) ∙ ap Some (sym says.1)
  behind_minus cs (Err e) says = ap (option_map (λ n. neg_ℤ (pos n))) (no_value_at_most (2 ^ 31) cs says)

  without_sign : (word : List ℕ) (r : Result ℤ E) → OkIff r ((all_ascii_digits word ≡ true) × (0 < length word) × (digits_value 10 word < 2 ^ 31)) (pos (digits_value 10 word))
      → MatchResult r (λ z. option_map pos (at_most (2 ^ 31 - 1) (value_of word)) ≡ Some z) (λ _. option_map pos (at_most (2 ^ 31 - 1) (value_of word)) ≡ None)
  without_sign word (Ok z) says = ap (option_map pos) (value_at_most (2 ^ 31 - 1) word says.0.0 says.0.1 (omega (arith, says.0.2))) ∙ ap Some (sym says.1)
  without_sign word (Err e) says = ap (option_map pos) (no_value_at_most (2 ^ 31 - 1) word (λ q. says (q.0, q.1, omega (arith, q.2))))

  pub signed_of-parse : (word : List ℕ) (r : Result ℤ E) → ParsesSigned w32 10 word r → get_or word 0 0 ≢ 43 → MatchResult r (λ z. signed_of word ≡ Some z) (λ _. signed_of word ≡ None)
  signed_of-parse [] (Ok z) parsed plain = absurd (omega (arith, parsed.0.0.0))
  signed_of-parse [] (Err e) parsed plain = refl
  signed_of-parse (c ∷ cs) r parsed plain = go (c == 45) refl
    where
      go : (test : Bool) → (c == 45) ≡ test → MatchResult r (λ z. signed_of (c ∷ cs) ≡ Some z) (λ _. signed_of (c ∷ cs) ≡ None)
      go true is =
          let minus : c ≡ 45 = eqb-true c 45 is in
          subst (λ s. MatchResult r (λ z. s ≡ Some z) (λ _. s ≡ None)) (sym (minus_first c cs minus))
          (behind_minus cs r (parse_signed_minus (numerals_by_value _ tells_all_ascii_digits) {E = E} w32 (c ∷ cs) r parsed minus))
      go false is =
          let other : c ≢ 45 = λ e. let yes = eq-eqb c 45 e in cc in
          subst (λ s. MatchResult r (λ z. s ≡ Some z) (λ _. s ≡ None)) (sym (other_first c cs other))
          (without_sign (c ∷ cs) r (parse_signed_plain (numerals_by_value _ tells_all_ascii_digits) {E = E} w32 (c ∷ cs) r parsed plain other))
