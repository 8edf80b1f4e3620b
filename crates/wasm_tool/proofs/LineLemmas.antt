-- This file proves that cuts at the first space return the words of a line.
use Rattle.wasm_base.proofs.Words.{◌≡◌, ℕ, ◌<◌, ◌==◌, false, List, [], ◌∷◌, length, refl, ap, ◌∙◌, sym, arith, ◌-◌, ◌≢◌, ◌++◌, get_or, take, cond, Bor, None, Some, Option, unwrap_or, eq-eqb, subst}
use Rattle.wasm_base.proofs.Words.{◌+◌, Bool, true, not, drop, lit<, common_steps, IfSome, MatchOption, filter, CutsPrefixes, FindsCharPrefix, IsTrimStartMatches, drop_at_char, slice_split}
use Rattle.wasm_base.proofs.Words.{before_first, after_first, position_or_len, drop_all, take_more, length-map, get_or-map, strip_carriage_return, All-from_get_or}
use Rattle.wasm_base.proofs.Words.{slice_split_first, slice_split_none, fails_before_first}
use Rattle.std.proofs.lemmas.List.{length-take}
use Rattle.wasm_tool.specs.{is_word, lines_of, rest_of, without_spaces, words_of}
use borrow.Author.Tests.{ne_eqb}
use borrow.Author.Tests.{eqb-true}

-- The words of a line with a space are the word before it, if there is one, and the words after it.
words_of-cut : (line word rest : List ℕ) → position_or_len (λ b. b == 0x20) line < length line
    → word ≡ before_first (λ b. b == 0x20) line → rest ≡ after_first (λ b. b == 0x20) line
    → words_of line ≡ filter is_word (word ∷ slice_split (λ b. b == 0x20) rest)
words_of-cut line word rest h e f =
    ap (filter is_word) (slice_split_first (λ b. b == 0x20) line 0 h)
    ∙ (λ i. filter is_word (sym e i ∷ slice_split (λ b. b == 0x20) (sym f i)))

filter-empty : (word : List ℕ) (parts : List (List ℕ)) → length word ≡ 0 → filter is_word (word ∷ parts) ≡ filter is_word parts
filter-empty [] parts h = refl
filter-empty (b ∷ bs) parts h = absurd (omega arith)

filter-word : (word : List ℕ) (parts : List (List ℕ)) → 0 < length word → filter is_word (word ∷ parts) ≡ word ∷ filter is_word parts
filter-word [] parts h = absurd (omega arith)
filter-word (b ∷ bs) parts h = refl

-- The words of a line that begins with a space are those after it.
pub words_of-empty : (line word rest : List ℕ) → position_or_len (λ b. b == 0x20) line < length line
    → word ≡ before_first (λ b. b == 0x20) line → rest ≡ after_first (λ b. b == 0x20) line → length word ≡ 0 → words_of line ≡ words_of rest
words_of-empty line word rest h e f none =
    words_of-cut line word rest h e f ∙ filter-empty word (slice_split (λ b. b == 0x20) rest) none

-- The words of a line with a word before its first space are that word and those after it.
pub words_of-word : (line word rest : List ℕ) → position_or_len (λ b. b == 0x20) line < length line
    → word ≡ before_first (λ b. b == 0x20) line → rest ≡ after_first (λ b. b == 0x20) line → 0 < length word → words_of line ≡ word ∷ words_of rest
words_of-word line word rest h e f some =
    words_of-cut line word rest h e f ∙ filter-word word (slice_split (λ b. b == 0x20) rest) some

-- A line without a space is one word, unless it is empty.
pub words_of-only : (line : List ℕ) → position_or_len (λ b. b == 0x20) line ≡ length line → 0 < length line → words_of line ≡ line ∷ []
words_of-only line h some =
    ap (filter is_word) (slice_split_none (λ b. b == 0x20) line
    (All-from_get_or (λ b. (b == 0x20) ≡ false) line 0 (λ k l. fails_before_first (λ b. b == 0x20) line k 0 (omega (arith, h)))))
    ∙ filter-word line [] some

pub words_of-none : (line : List ℕ) → length line ≡ 0 → words_of line ≡ []
words_of-none [] h = refl
words_of-none (b ∷ bs) h = absurd (omega arith)

place_none : (b : ℕ) (bs : List ℕ) → (b == 0x20) ≡ true → position_or_len (λ b. b == 0x20) (b ∷ bs) ≡ 0
place_none b bs is = ap (λ t. cond (not t) (1 + position_or_len (λ b. b == 0x20) bs) 0) is

place_more : (b : ℕ) (bs : List ℕ) → (b == 0x20) ≡ false → position_or_len (λ b. b == 0x20) (b ∷ bs) ≡ 1 + position_or_len (λ b. b == 0x20) bs
place_more b bs is = ap (λ t. cond (not t) (1 + position_or_len (λ b. b == 0x20) bs) 0) is

-- The same for the remainder of a line after its first word.
without_spaces-cut_at : (b : ℕ) (bs word rest : List ℕ) (t : Bool) → (b == 0x20) ≡ t → word ≡ before_first (λ b. b == 0x20) (b ∷ bs)
    → rest ≡ after_first (λ b. b == 0x20) (b ∷ bs) → length word ≡ 0 → without_spaces (b ∷ bs) ≡ without_spaces rest
without_spaces-cut_at b bs word rest true is e f none =
    subst (λ c. rest ≡ after_first (λ b. b == 0x20) (c ∷ bs) → without_spaces (c ∷ bs) ≡ without_spaces rest) (sym (eqb-true b 32 is)) (λ after. ap without_spaces (sym after)) f
without_spaces-cut_at b bs word rest false is e f none =
    absurd (omega (arith, ap length e, place_more b bs is, length-take (position_or_len (λ b. b == 0x20) (b ∷ bs)) (b ∷ bs)))

without_spaces-cut : (line word rest : List ℕ) → position_or_len (λ b. b == 0x20) line < length line
    → word ≡ before_first (λ b. b == 0x20) line → rest ≡ after_first (λ b. b == 0x20) line → length word ≡ 0 → without_spaces line ≡ without_spaces rest
without_spaces-cut [] word rest h e f none = absurd (omega arith)
without_spaces-cut (b ∷ bs) word rest h e f none = without_spaces-cut_at b bs word rest (b == 0x20) refl e f none

without_spaces-word_at : (b : ℕ) (bs : List ℕ) (t : Bool) → (b == 0x20) ≡ t → 0 < position_or_len (λ b. b == 0x20) (b ∷ bs) → without_spaces (b ∷ bs) ≡ b ∷ bs
without_spaces-word_at b bs true is h = absurd (omega (arith, place_none b bs is))
without_spaces-word_at b bs false is h = ap (λ t. cond t (without_spaces bs) (b ∷ bs)) is

without_spaces-word : (line : List ℕ) → 0 < position_or_len (λ b. b == 0x20) line → without_spaces line ≡ line
without_spaces-word [] h = refl
without_spaces-word (b ∷ bs) h = without_spaces-word_at b bs (b == 0x20) refl h

pub rest_of-empty : (line word rest : List ℕ) → position_or_len (λ b. b == 0x20) line < length line
    → word ≡ before_first (λ b. b == 0x20) line → rest ≡ after_first (λ b. b == 0x20) line → length word ≡ 0 → rest_of line ≡ rest_of rest
rest_of-empty line word rest h e f none =
    ap (λ t. without_spaces (after_first (λ b. b == 0x20) t)) (without_spaces-cut line word rest h e f none)

pub rest_of-word : (line word rest : List ℕ) → position_or_len (λ b. b == 0x20) line < length line
    → word ≡ before_first (λ b. b == 0x20) line → rest ≡ after_first (λ b. b == 0x20) line → 0 < length word → without_spaces rest ≡ rest_of line
rest_of-word line word rest h e f some =
    let begins : 0 < position_or_len (λ b. b == 0x20) line = omega (arith, ap length e, length-take (position_or_len (λ b. b == 0x20) line) line) in
    ap without_spaces (f ∙ ap (after_first (λ b. b == 0x20)) (sym (without_spaces-word line begins)))

pub rest_of-only : (line : List ℕ) → position_or_len (λ b. b == 0x20) line ≡ length line → 0 < length line → [] ≡ rest_of line
rest_of-only line h some =
    let begins : 0 < position_or_len (λ b. b == 0x20) line = omega (arith, h) in
    let nothing : after_first (λ b. b == 0x20) line ≡ [] = drop_all (position_or_len (λ b. b == 0x20) line + 1) line (omega (arith, h)) in
    sym (ap (λ t. without_spaces (after_first (λ b. b == 0x20) t)) (without_spaces-word line begins) ∙ ap without_spaces nothing)

pub ruleset cuts = (words_of-empty, words_of-word, words_of-only, words_of-none, rest_of-empty, rest_of-word, rest_of-only)

-- A line that ends with a carriage return loses it.
strip_carriage_return_some : (line front : List ℕ) → line ≡ front ++ 13 ∷ [] → front ≡ strip_carriage_return line
strip_carriage_return_some line front e =
    let last : get_or line (length line - 1) 0 ≡ 13 = grind (arith, common_steps) in
    let kept : take (length line - 1) line ≡ front = grind (arith, common_steps) in
    sym (ap (λ b. cond b (take (length line - 1) line) line) (eq-eqb _ 13 last) ∙ kept)

ends_with_it : (line : List ℕ) → get_or line (length line - 1) 0 ≡ 13 → line ≡ take (length line - 1) line ++ 13 ∷ []
ends_with_it [] last = absurd (omega arith)
ends_with_it (b ∷ bs) last =
    let e = take_more (b ∷ bs) (length bs) 0 (omega arith) in
    grind (arith, common_steps, e)

-- Every other line is kept.
strip_carriage_return_none : (line : List ℕ) → ((front : List ℕ) → line ≢ front ++ 13 ∷ []) → line ≡ strip_carriage_return line
strip_carriage_return_none line none =
    sym (ap (λ b. cond b (take (length line - 1) line) line) (ne_eqb (get_or line (length line - 1) 0) 13
    (λ last. none (take (length line - 1) line) (ends_with_it line last))))

-- The effect of a call of `strip_suffix` on a line.
pub stripped : (line : List ℕ) (r : Option (Bor (List ℕ))) → MatchOption r ((front : List ℕ) → line ≢ front ++ 13 ∷ []) (λ x. line ≡ x.now ++ 13 ∷ [])
    → (whole : Bor (List ℕ)) → whole.now ≡ line → (unwrap_or r whole).now ≡ strip_carriage_return line
stripped line None h whole e = e ∙ strip_carriage_return_none line h
stripped line (Some x) h whole e = strip_carriage_return_some line x.now h

-- The piece of a text between line feeds at this index.
pub record IsPart (text part : List ℕ) (n : ℕ) : Type 0 where
  pub within : n < length (slice_split (λ b. b == 0x0A) text)
  pub is : part ≡ get_or (slice_split (λ b. b == 0x0A) text) n part

-- The line of the piece of a text at this index.
module _ {text part : List ℕ} {n : ℕ} (found : IsPart text part n) where
  pub within : n < length (lines_of text)
  within = omega (arith, found.within, length-map (slice_split (λ b. b == 0x0A) text) strip_carriage_return)

  pub line_is : (line : List ℕ) → get_or (lines_of text) n line ≡ strip_carriage_return part
  line_is line = get_or-map strip_carriage_return (slice_split (λ b. b == 0x0A) text) n part line found.within ∙ ap strip_carriage_return (sym found.is)

pub lines_of-length : (text : List ℕ) → length (lines_of text) ≡ length (slice_split (λ b. b == 0x0A) text)
lines_of-length text = length-map (slice_split (λ b. b == 0x0A) text) strip_carriage_return

pub part_at : (text : List ℕ) {part : List ℕ} {n count : ℕ} → n ≡ count
    → (count < length (slice_split (λ b. b == 0x0A) text)) × (part ≡ get_or (slice_split (λ b. b == 0x0A) text) count part) → IsPart text part n
part_at text {part} e found = subst (IsPart text part) (sym e) (record { within = found.0; is = found.1 })

-- Cuts of leading spaces leave a text with the same remainder.
without_spaces-cuts : (ns text left : List ℕ) → CutsPrefixes (FindsCharPrefix 32) text ns left → without_spaces text ≡ without_spaces left
without_spaces-cuts [] text left cuts = ap without_spaces (sym cuts)
without_spaces-cuts (n ∷ ns) text left cuts =
    let before = without_spaces-cuts ns text cuts.0 cuts.1 in
    let space : cuts.0 ≡ 32 ∷ drop n cuts.0 = drop_at_char 32 cuts.0 0 n cuts.2 (lit< tt) in
    before ∙ ap without_spaces space ∙ ap without_spaces (sym cuts.3)

kept_at : (b : ℕ) (bs : List ℕ) (t : Bool) → (b == 0x20) ≡ t → ¬ (b ≡ 32) → without_spaces (b ∷ bs) ≡ b ∷ bs
kept_at b bs true is other = absurd (other (eqb-true b 32 is))
kept_at b bs false is other = ap (λ t. cond t (without_spaces bs) (b ∷ bs)) is

-- A text that does not begin with a space is its own remainder.
without_spaces-none : (left : List ℕ) (t : Option ℕ) → FindsCharPrefix 32 left t → IfSome t (λ n. n ≡ 0) → without_spaces left ≡ left
unfolding lib.Utf8.encode
without_spaces-none [] None found none = refl
without_spaces-none (b ∷ bs) None found none = kept_at b bs (b == 0x20) refl (λ e. found bs (ap (λ c. c ∷ bs) e))
without_spaces-none left (Some n) found none = let width : n ≡ 0 + 1 = found.ends in absurd (omega arith)

pub trimmed : (text left : List ℕ) → IsTrimStartMatches (FindsCharPrefix 32) text left → left ≡ without_spaces text
trimmed text left h =
    sym (without_spaces-cuts h.0.0 text left h.0.1 ∙ without_spaces-none left h.1.0 h.1.1 h.1.2)
