use Rattle.wasm_base.proofs.Words.{◌≡◌, ◌-◌, length}
use Rattle.wasm_c.specs.Outlining.{behind_number}
use Rattle.wasm_c.proofs.outlining.end_of_number.Given as goal

-- The offset after the number does not change.
abbrev pub invariant-loop-last : goal.invariant-loop-last
invariant-loop-last l = behind_number l.bytes l.last ≡ behind_number l.bytes l.initial.last

abbrev pub decreases-loop-last : goal.decreases-loop-last
decreases-loop-last l = length l.bytes - l.last
