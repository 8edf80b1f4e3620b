use Rattle.wasm_tool.proofs.Common.{◌≡◌, ℕ, List, ◌++◌, length, IsBlank}
use Rattle.std.proofs.Common.{All}
use Rattle.wasm_tool.proofs.listing.without_end.Given as goal

-- Only blanks are cut from the end of the text.
abbrev pub invariant-loop-text : goal.invariant-loop-text
invariant-loop-text l = (blanks : List ℕ) × (l.initial.text ≡ l.text ++ blanks) × All IsBlank blanks

abbrev pub decreases-loop-text : goal.decreases-loop-text
decreases-loop-text l = length l.text
