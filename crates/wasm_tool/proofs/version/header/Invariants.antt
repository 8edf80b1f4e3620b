use Rattle.wasm_tool.proofs.Common.{◌≡◌, length, lines_of, IsHeaderAfter}
use Rattle.wasm_tool.proofs.version.header.Given as goal

abbrev pub invariant-loop-line : goal.invariant-loop-line
invariant-loop-line l = record {
  steps : (goal.iterator-loop-line).can_next l.line-iterator × (goal.iterator-loop-line).is_finite l.line-iterator;
  index : l.index ≡ length l.yielded;
  after : IsHeaderAfter (lines_of l.lines) l.index;
}
