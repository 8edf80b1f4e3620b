use Rattle.calls.proofs.Common.{padded, ◌≡◌, ◌≤◌, ◌-◌, List, length, Plain, ahead, HasWalked}
use Rattle.calls.proofs.walks.count_instructions.Given as goal

abbrev pub invariant-loop-step : goal.invariant-loop-step
invariant-loop-step g l =
    (seen : List Plain) × HasWalked padded (ahead l.initial.instructions) seen (ahead l.instructions) × (length seen ≡ l.count) × (l.count ≤ l.instructions.offset) × (l.instructions.bytes ≡ l.bytes)

abbrev pub decreases-loop-step : goal.decreases-loop-step
decreases-loop-step g l = length l.bytes - l.instructions.offset
