-- This file defines the lines of a text, the words of a line, and the version of a recipe.
use Rattle.std.specs.Prelude.{ℕ, suc, ◌==◌, ◌&&◌, Bool, true, false, if◌then◌else◌, codes, List, [], ◌∷◌, filter, map, set, Option, Some, None, option_map}
use Rattle.std.specs.List.{after_first, slice_split}
use Rattle.std.specs.Str.{bytes_eq}
use Rattle.std.specs.Str.Lines.{strip_carriage_return}
use Rattle.wasm_tool.specs.declared.version.Version.{Version}
use Rattle.wasm_tool.specs.declared.version.Version.TheVariants.{First, Second}

-- The lines of a text. Each ends at a line feed or at the end of the text, and loses a carriage
-- return at its end.
abbrev pub lines_of : List ℕ → List (List ℕ)
lines_of text = map strip_carriage_return (slice_split (λ b. b == 0x0A) text)

-- Whether there is a word between two spaces.
abbrev pub is_word : List ℕ → Bool
is_word [] = false
is_word (b ∷ bs) = true

-- The words of a line, which spaces separate.
abbrev pub words_of : List ℕ → List (List ℕ)
words_of line = filter is_word (slice_split (λ b. b == 0x20) line)

-- The text without the spaces before it.
abbrev pub without_spaces : List ℕ → List ℕ
without_spaces [] = []
without_spaces (b ∷ bs) = if b == 0x20 then without_spaces bs else b ∷ bs

-- The text after the first word of a line, without the spaces before it.
abbrev pub rest_of : List ℕ → List ℕ
rest_of line = without_spaces (after_first (λ b. b == 0x20) (without_spaces line))

-- ---- comments

-- Whether a comment begins with this word: it begins with '#'.
abbrev pub begins_comment : List ℕ → Bool
begins_comment [] = false
begins_comment (b ∷ bs) = b == 0x23

-- The words before a comment.
abbrev pub before_comment : List (List ℕ) → List (List ℕ)
before_comment [] = []
before_comment (word ∷ words) = if begins_comment word then [] else word ∷ before_comment words

-- The words of a line that count: in version 2, those before a comment.
abbrev pub counted_words : Version → List ℕ → List (List ℕ)
counted_words First line = words_of line
counted_words Second line = before_comment (words_of line)

-- ---- the version of a recipe

-- Whether these words of a line are `version 2`; `None` if there are no words.
abbrev pub is_version_2 : List (List ℕ) → Option Bool
is_version_2 [] = None
is_version_2 (command ∷ []) = Some false
is_version_2 (command ∷ number ∷ []) = Some (bytes_eq command (codes "version") && bytes_eq number (codes "2"))
is_version_2 (command ∷ number ∷ word ∷ words) = Some false

-- The index of the line `version 2`, by whether the first line is it, and by the index of that line
-- among the later ones.
abbrev pub header_from : Option Bool → Option ℕ → Option ℕ
header_from None later = option_map suc later
header_from (Some true) later = Some 0
header_from (Some false) later = None

-- The index of the line `version 2`, if it is the first line that has a word before a comment.
abbrev pub header_of : List (List ℕ) → Option ℕ
header_of [] = None
header_of (line ∷ lines) = header_from (is_version_2 (counted_words Second line)) (header_of lines)

-- The version of a recipe: the second one if it has a line `version 2`.
abbrev pub version_with : Option ℕ → Version
version_with None = First
version_with (Some index) = Second

-- The lines of a recipe. The line `version 2` adds no item: it is replaced by an empty line.
abbrev pub lines_with : Option ℕ → List (List ℕ) → List (List ℕ)
lines_with None lines = lines
lines_with (Some index) lines = set lines index []

-- A line of a text as the line of a recipe at this index.
abbrev pub line_with : Option ℕ → ℕ → List ℕ → List ℕ
line_with None index line = line
line_with (Some header) index line = if header == index then [] else line

-- The version of a text that may begin with `version 2`.
abbrev pub version_of : List ℕ → Version
version_of text = version_with (header_of (lines_of text))

-- The lines of a text that may begin with `version 2`.
abbrev pub versioned_lines : List ℕ → List (List ℕ)
versioned_lines text = lines_with (header_of (lines_of text)) (lines_of text)

-- The version and the lines of a recipe.
pub record Script : Type 0 where
  pub version : Version
  pub lines : List (List ℕ)

-- A text as a recipe of version 1.
abbrev pub first_script : List ℕ → Script
first_script text = record { version = First; lines = lines_of text }

-- A text as a recipe of version 1 or 2.
abbrev pub versioned_script : List ℕ → Script
versioned_script text = record { version = version_of text; lines = versioned_lines text }
