use Rattle.calls.proofs.Common.{standard, u32, ◌≡◌, ◌+◌, length, HasRead}
use Rattle.calls.proofs.operands.labels_of.Given as goal

-- The labels that were decoded.
abbrev pub invariant-loop-label : goal.invariant-loop-label
invariant-loop-label g l = HasRead u32 standard (λ n. n) l.initial.members.rest l.labels.items l.members.rest × (length l.labels.items + l.members.left ≡ l.initial.members.left)

abbrev pub decreases-loop-label : goal.decreases-loop-label
decreases-loop-label g l = l.members.left
