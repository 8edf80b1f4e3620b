use Rattle.wasm_base.proofs.Std.{take}
use Rattle.wasm_base.specs.{AddsEach}
use Rattle.wasm_base.proofs.counted.add_all.Given as goal

-- The builder has gained exactly the items before this one.
abbrev pub invariant-loop-added : goal.invariant-loop-added
invariant-loop-added g l =
    AddsEach g.B.Counted.item_encoding g.B.Counted.item_encodable (take l.added l.items) (g.B.Counted.pieces l.fn.builder) (g.B.Counted.pieces l.builder)
