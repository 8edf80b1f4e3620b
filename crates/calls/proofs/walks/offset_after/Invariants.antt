use Rattle.calls.proofs.Common.{◌≡◌, ◌≤◌, length, padded, Body, HasVisited}
use Rattle.calls.proofs.walks.offset_after.Given as goal

-- The instructions that the reader has visited.
abbrev pub invariant-loop-taken : goal.invariant-loop-taken
invariant-loop-taken g l = (x : Body) × HasVisited padded l.bytes l.instructions.offset x × (length x.code ≡ l._taken) × (l.instructions.offset ≤ length l.bytes) × (l.instructions.bytes ≡ l.bytes)
