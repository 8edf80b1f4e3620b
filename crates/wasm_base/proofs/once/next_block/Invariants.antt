use Rattle.wasm_base.proofs.Std.{◌≡◌, length, take, Yields, IsFinite}
use Rattle.wasm_base.proofs.once.next_block.Given as goal

abbrev pub invariant-loop-i : goal.invariant-loop-i
invariant-loop-i g l = record {
  can : g.I.Iterator.can_next l.items;
  finite : IsFinite (g.I.Iterator.remaining l.items);
  places : length l.block ≡ 16;
  so_far : Yields g.I.Iterator.next_gives l.initial.items (take l.i l.block) l.items;
}
