-- This file proves how the lines of a text determine the version of a recipe, and which lines the
-- recipe then has.
use Rattle.wasm_base.proofs.Words.{◌≡◌, ℕ, ◌+◌, ◌<◌, ◌≤◌, ◌==◌, Bool, true, false, cond, List, [], ◌∷◌, ◌++◌, get_or, length, take, drop, Option, Some, None, option_map, refl, ap, sym, ◌∙◌, arith}
use Rattle.wasm_base.proofs.Words.{suc, drop-cons, drop_all, eqb-true, eqb-false, slice_get, slice_get-get_or, strip_carriage_return, take_more}
use Rattle.std.specs.Prelude.{set}
use Rattle.std.proofs.lemmas.Grind.{get_or-set_at}
use Rattle.std.proofs.lemmas.List.{get_or-set_other, length-set}
use Rattle.wasm_tool.specs.declared.version.Version.TheVariants.{Second}
use Rattle.wasm_tool.specs.{counted_words, header_from, header_of, line_with, lines_with, lines_of, is_version_2}
use Rattle.wasm_tool.proofs.LineLemmas.{IsPart, line_is, within}

-- ---- the index of the line `version 2`

-- The index is not among the first `n` lines.
abbrev pub IsHeaderAfter : List (List ℕ) → ℕ → Type 0
IsHeaderAfter lines n = header_of lines ≡ option_map (λ k. n + k) (header_of (drop n lines))

header_cut : (lines : List (List ℕ)) (line : List ℕ) (n : ℕ) → n < length lines → get_or lines n line ≡ line
    → header_of (drop n lines) ≡ header_from (is_version_2 (counted_words Second line)) (header_of (drop (suc n) lines))
header_cut lines line n within is =
    ap header_of (drop-cons lines n line within) ∙ ap (λ l. header_from (is_version_2 (counted_words Second l)) (header_of (drop (suc n) lines))) is

pub header_start : (lines : List (List ℕ)) → IsHeaderAfter lines 0
header_start lines = same (header_of lines)
  where
    same : (h : Option ℕ) → h ≡ option_map (λ k. 0 + k) h
    same None = refl
    same (Some k) = ap Some (let e : k ≡ 0 + k = omega arith in e)

one_later : (n : ℕ) (h : Option ℕ) → option_map (λ k. n + k) (option_map suc h) ≡ option_map (λ k. n + 1 + k) h
one_later n None = refl
one_later n (Some k) = ap Some (let e : n + suc k ≡ n + 1 + k = omega arith in e)

-- A line without words does not determine the version.
pub header_later : (lines : List (List ℕ)) (line : List ℕ) (n : ℕ) → n < length lines → get_or lines n line ≡ line
    → is_version_2 (counted_words Second line) ≡ None → IsHeaderAfter lines n → IsHeaderAfter lines (n + 1)
header_later lines line n within is none after =
    let later : suc n ≡ n + 1 = omega arith in
    after ∙ ap (option_map (λ k. n + k)) (header_cut lines line n within is ∙ ap (λ told. header_from told (header_of (drop (suc n) lines))) none)
    ∙ one_later n (header_of (drop (suc n) lines)) ∙ ap (λ m. option_map (λ k. n + 1 + k) (header_of (drop m lines))) later

-- The first line with a word does.
told_at : (n : ℕ) (told : Bool) (later : Option ℕ) → cond told (Some n) None ≡ option_map (λ k. n + k) (header_from (Some told) later)
told_at n true later = ap Some (let e : n ≡ n + 0 = omega arith in e)
told_at n false later = refl

pub header_told : (lines : List (List ℕ)) (line : List ℕ) (n : ℕ) (told : Bool) → n < length lines → get_or lines n line ≡ line
    → is_version_2 (counted_words Second line) ≡ Some told → IsHeaderAfter lines n → cond told (Some n) None ≡ header_of lines
header_told lines line n told within is says after =
    told_at n told (header_of (drop (suc n) lines))
    ∙ sym (after ∙ ap (option_map (λ k. n + k)) (header_cut lines line n within is ∙ ap (λ t. header_from t (header_of (drop (suc n) lines))) says))

pub header_none : (lines : List (List ℕ)) (n : ℕ) → length lines ≤ n → IsHeaderAfter lines n → None ≡ header_of lines
header_none lines n all after = sym (after ∙ ap (λ l. option_map (λ k. n + k) (header_of l)) (drop_all n lines all))

-- ---- lines

pub lines_with-length : (header : Option ℕ) (lines : List (List ℕ)) → length (lines_with header lines) ≡ length lines
lines_with-length None lines = refl
lines_with-length (Some index) lines = length-set lines index []

lines_with-at : (header : Option ℕ) (lines : List (List ℕ)) (n : ℕ) (line : List ℕ) → n < length lines → get_or (lines_with header lines) n line ≡ line_with header n (get_or lines n line)
lines_with-at None lines n line within = refl
lines_with-at (Some index) lines n line within = go (index == n) refl
  where
    go : (test : Bool) → (index == n) ≡ test → get_or (set lines index []) n line ≡ cond (index == n) [] (get_or lines n line)
    go true is =
        let same : n ≡ index = sym (eqb-true index n is) in
        get_or-set_at lines index n [] line same (omega (arith, same, within)) ∙ ap (λ t. cond t [] (get_or lines n line)) (sym is)
    go false is =
        get_or-set_other lines index n [] line (λ e. eqb-false index n is (sym e)) ∙ ap (λ t. cond t [] (get_or lines n line)) (sym is)

-- The line of a recipe at this index of a text's pieces between line feeds.
module _ (header : Option ℕ) {text part line : List ℕ} {n : ℕ} (found : IsPart text part n) (is : line ≡ line_with header n (strip_carriage_return part)) where
  pub line_within : n < length (lines_with header (lines_of text))
  line_within = omega (arith, within found, lines_with-length header (lines_of text))

  same_line : get_or (lines_with header (lines_of text)) n line ≡ line
  same_line = lines_with-at header (lines_of text) n line (within found) ∙ ap (line_with header n) (line_is found line) ∙ sym is

  pub line_at : slice_get (lines_with header (lines_of text)) n ≡ Some line
  line_at = slice_get-get_or (lines_with header (lines_of text)) n line line_within ∙ ap Some same_line

  pub one_more_line : take (n + 1) (lines_with header (lines_of text)) ≡ take n (lines_with header (lines_of text)) ++ line ∷ []
  one_more_line = take_more (lines_with header (lines_of text)) n line line_within ∙ ap (λ l. take n (lines_with header (lines_of text)) ++ l ∷ []) same_line
