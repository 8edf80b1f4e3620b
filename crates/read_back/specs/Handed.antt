-- This file defines the sections of a module that is built from the caller's arguments.
use Rattle.std.specs.Prelude.{ℕ, List, [], ◌∷◌}
use Rattle.wasm_base.specs.Words.{SectionDecoding}
use Rattle.wasm_code.specs.Words.{raw_code_decoding}
use Rattle.wasm_custom.specs.Words.{custom_decoding}
use Rattle.wasm_sections.specs.Words.{tag_decoding}
use Rattle.read_back.specs.Declarations.{thrown}

-- The sections, in order: tags, a raw body, and twice a custom section of this name and these
-- bytes.
abbrev pub handed_sections : ℕ → List ℕ → List ℕ → List ℕ → List SectionDecoding
handed_sections index body name bytes = tag_decoding (thrown 0 ∷ thrown index ∷ []) ∷ raw_code_decoding (body ∷ []) ∷ custom_decoding name bytes ∷ custom_decoding name bytes ∷ []
