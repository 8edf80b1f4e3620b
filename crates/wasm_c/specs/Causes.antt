-- This file defines the messages of causes.
use Rattle.std.specs.Prelude.{◌≡◌, ℕ, zero, suc, List, [], ◌∷◌, codes, Option, Some, None}
use Rattle.std.specs.List.{slice_get}
use Rattle.wasm_c.specs.Assembled.{Gives}
use Rattle.wasm_c.specs.declared.TheConstants.{NO_ANSWER}

-- The messages of errors in the bytes of sections and modules, in the order of their numbers.
abbrev pub fault_texts : List (List ℕ)
fault_texts =
    codes "Ended" ∷ codes "NotShortest" ∷ codes "TooLarge" ∷ codes "UnknownTag" ∷ codes "UnknownOpcode" ∷ codes "NotUtf8" ∷ codes "SizeMismatch" ∷ codes "Memory" ∷ codes "NoKind" ∷ codes "Offsets" ∷ codes "NoIndex" ∷ codes "Overlong" ∷ []

-- The messages of errors in a recipe, in the order of their numbers.
abbrev pub recipe_texts : List (List ℕ)
recipe_texts =
    codes "unknown command" ∷ codes "bad number" ∷ codes "bad hex" ∷ codes "missing word" ∷ codes "out of memory" ∷ codes "too long" ∷ codes "not text"
    ∷ codes "surplus word" ∷ codes "unknown type" ∷ codes "locals without a body"
    ∷ []

-- The message of a number, counted from 1, if there is one.
abbrev pub text_numbered : List (List ℕ) → ℕ → Option (List ℕ)
text_numbered encodings zero = None
text_numbered encodings (suc n) = slice_get encodings n

-- The call returns the message, or writes nothing if there is none.
abbrev pub Determines : Option (List ℕ) → List ℕ → List ℕ → ℕ → Type 0
Determines None old new n = (n ≡ NO_ANSWER) × (new ≡ old)
Determines (Some text) old new n = Gives text old new n
