use Rattle.calls.proofs.Common.{padded, ◌≡◌, ◌≤◌, ◌-◌, List, length, Plain, ahead, HasWalked, count_by, is_call}
use Rattle.calls.proofs.operands.count_calls.Given as goal

-- The instructions that were visited.
abbrev pub invariant-loop-decoded : goal.invariant-loop-decoded
invariant-loop-decoded g l =
    (seen : List Plain) × HasWalked padded (ahead l.initial.instructions) seen (ahead l.instructions) × (count_by (is_call l.function) seen ≡ l.count) × (l.count ≤ l.instructions.offset) × (l.instructions.bytes ≡ l.bytes)

abbrev pub decreases-loop-decoded : goal.decreases-loop-decoded
decreases-loop-decoded g l = length l.bytes - l.instructions.offset
