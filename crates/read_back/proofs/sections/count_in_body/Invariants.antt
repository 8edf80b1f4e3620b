use Rattle.read_back.proofs.Common.{standard, ◌≡◌, ◌≤◌, ◌-◌, List, length, Plain, ahead, HasWalked}
use Rattle.read_back.proofs.sections.count_in_body.Given as goal

abbrev pub invariant-loop-count : goal.invariant-loop-count
invariant-loop-count g l =
    (seen : List Plain) × HasWalked standard (ahead l.initial.instructions) seen (ahead l.instructions) × (length seen ≡ l.count) × (l.count ≤ l.instructions.offset) × (l.instructions.bytes ≡ l.initial.instructions.bytes)

abbrev pub decreases-loop-count : goal.decreases-loop-count
decreases-loop-count g l = length l.instructions.bytes - l.instructions.offset
