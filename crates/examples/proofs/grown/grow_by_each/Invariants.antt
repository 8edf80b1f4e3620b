use Rattle.examples.proofs.Common.{map, take, Body, IsWellFormedBody, and_then, normal_row, HasSmallAlignments}
use Rattle.std.proofs.Common.{All}
use Rattle.examples.proofs.grown.grow_by_each.Given as goal

abbrev pub invariant-loop-instruction : goal.invariant-loop-instruction
invariant-loop-instruction g l =
    All HasSmallAlignments l.instructions → (x : Body) → IsWellFormedBody l.initial.function x → IsWellFormedBody l.function (and_then x (map normal_row (take l.instruction-index l.instructions)))
