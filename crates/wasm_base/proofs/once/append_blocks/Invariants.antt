use Rattle.wasm_base.proofs.Std.{◌≡◌, ℕ, ◌+◌, ◌≤◌, List, ◌++◌, length, vec_capacity, Yields, IsFinite}
use Rattle.wasm_base.proofs.once.append_blocks.Given as goal

abbrev pub invariant-loop-left : goal.invariant-loop-left
invariant-loop-left g l = record {
  can : g.I.Iterator.can_next l.items;
  finite : IsFinite (g.I.Iterator.remaining l.items);
  given : List ℕ;
  so_far : Yields g.I.Iterator.next_gives l.initial.items given l.items;
  counted : l.left + length given ≤ l.count;
  encoding : l.sink.items ≡ l.initial.sink.items ++ given;
  capacity : vec_capacity l.initial.sink ≤ vec_capacity l.sink;
}

abbrev pub decreases-loop-left : goal.decreases-loop-left
decreases-loop-left g l = l.left
