-- This file defines the input and the output of `--read`.
use Rattle.std.specs.Prelude.{◌≡◌, ◌⊎◌, ℕ, List, [], ◌∷◌, ◌++◌, Option, Some, None, Ok, string_bytes, All}
use Rattle.std.specs.Fmt.{decimal}
use Rattle.std.specs.List.{flat_map}
use Rattle.std.specs.declared.string.String.{String}
use Rattle.hex.specs.Hex.{decode_of}
use Rattle.wasm_reader.specs.Words.{HasLines}
use Rattle.wasm_reader.specs.declared.modules.Listed.{Listed}

-- ---- the argument

-- The word `--read`.
abbrev pub read_word : List ℕ
read_word = 0x2D ∷ 0x2D ∷ 0x72 ∷ 0x65 ∷ 0x61 ∷ 0x64 ∷ []

-- The one argument of the program is `--read`.
pub record AsksToRead {A : Type 0} (args : List (String A)) : Type 0 where
  pub word : String A
  pub one : args ≡ word ∷ []
  pub is : string_bytes word ≡ read_word

-- ---- hexadecimal text

-- A space, a carriage return or a line feed.
abbrev pub IsBlank : ℕ → Type 0
IsBlank b = (b ≡ 0x20) ⊎ (b ≡ 0x0D) ⊎ (b ≡ 0x0A)

-- The kept text is the text without the blanks at its end.
pub record DropsBlanks (text kept : List ℕ) : Type 0 where
  pub blanks : List ℕ
  pub split : text ≡ kept ++ blanks
  pub blank : All IsBlank blanks
  pub last : (front : List ℕ) (b : ℕ) → kept ≡ front ++ b ∷ [] → IsBlank b → ⊥

-- The text is the hexadecimal digits of the bytes, and blanks may follow.
pub record IsHexText (text bytes : List ℕ) : Type 0 where
  pub digits : List ℕ
  pub ends : DropsBlanks text digits
  pub decoded : decode_of digits ≡ Ok bytes

-- ---- lines

-- A number of items, or `-` if they are not counted.
abbrev pub items_text : Option ℕ → List ℕ
items_text (Some n) = decimal n
items_text None = 0x2D ∷ []

-- The line of a section: its id, its size and its number of items, separated by spaces, and a line
-- feed.
abbrev pub line_of : Listed → List ℕ
line_of s = decimal s.id ++ 0x20 ∷ decimal s.size ++ 0x20 ∷ items_text s.items ++ 0x0A ∷ []

-- One line for each section.
abbrev pub listing_of : List Listed → List ℕ
listing_of sections = flat_map line_of sections

-- The text is the hexadecimal text of a module, and these are the lines of its sections.
pub record Lists (text lines : List ℕ) : Type 0 where
  pub bytes : List ℕ
  pub sections : List Listed
  pub hex : IsHexText text bytes
  pub read : HasLines bytes sections
  pub written : lines ≡ listing_of sections
