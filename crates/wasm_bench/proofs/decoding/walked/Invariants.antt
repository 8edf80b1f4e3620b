use Rattle.wasm_base.proofs.Words.{padded, ◌≡◌, ◌≤◌, ◌-◌, List, length}
use Rattle.wasm_insn.proofs.Words.{Plain}
use Rattle.wasm_code.proofs.Words.{ahead, HasWalked}
use Rattle.wasm_bench.proofs.decoding.walked.Given as goal

-- The instructions that the reader has visited.
abbrev pub invariant-loop-step : goal.invariant-loop-step
invariant-loop-step l =
    (seen : List Plain) × HasWalked padded (ahead l.initial.walk) seen (ahead l.walk) × (length seen ≡ l.count) × (l.count ≤ l.walk.offset) × (l.walk.offset ≤ length l.body) × (l.walk.bytes ≡ l.body)

abbrev pub decreases-loop-step : goal.decreases-loop-step
decreases-loop-step l = length l.body - l.walk.offset
