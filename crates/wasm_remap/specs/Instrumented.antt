-- This file defines bodies with instructions before and after their own.
use Rattle.std.specs.Prelude.{ℕ, suc, List, [], ◌∷◌, ◌++◌}
use Rattle.wasm_code.specs.Words.{Body}
use Rattle.wasm_insn.specs.Words.{Plain}
use Rattle.wasm_remap.specs.Begun.{EditsCode}

-- The instructions to insert around the instruction of each number.
abbrev pub Around : Type 0
Around = ℕ → Plain → List Plain

-- Nothing in front of the end of a list, and otherwise these instructions.
abbrev pub unless_last : List Plain → List Plain → List Plain
unless_last [] code = []
unless_last (i ∷ others) code = code

-- The instructions from number `n` on, with those that belong before and after each. Others follow
-- them. Behind the last one of all is none.
abbrev pub woven_before : Around → Around → ℕ → (is others : List Plain) → List Plain
woven_before before after n [] others = []
woven_before before after n (i ∷ is) others = before n i ++ (i ∷ (unless_last (is ++ others) (after n i) ++ woven_before before after (suc n) is others))

-- The instructions of a body, with those that belong before and after each. Behind the last one,
-- which ends the body, is none.
abbrev pub woven : Around → Around → List Plain → List Plain
woven before after is = woven_before before after 0 is []

-- The body with instructions before and after its own.
abbrev pub instrumented_body : Around → Around → Body → Body
instrumented_body before after x = record { runs = x.runs; code = woven before after x.code }

-- The bytes are a module, and the edited bytes are a module whose bodies have these instructions
-- before and after their own. A module without code stays.
abbrev pub InstrumentsCode : (before after : ℕ → Around) → (bytes edited : List ℕ) → Type 0
InstrumentsCode before after = EditsCode (λ n x. instrumented_body (before n) (after n) x ∷ [])
