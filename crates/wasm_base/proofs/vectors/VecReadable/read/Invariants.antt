use Rattle.wasm_base.specs.{padded_of}
use Rattle.wasm_base.proofs.Std.{◌≡◌, length}
use Rattle.wasm_base.proofs.DecodeVectors.{HasRead}
use Rattle.wasm_base.proofs.vectors.VecReadable.read.Given as goal

abbrev pub invariant-loop-taken : goal.invariant-loop-taken
invariant-loop-taken g l = HasRead g.T.Layout.format (padded_of g.G.Grammar.grammar) g.T.Layout.view l.initial.rest l.items.items l.rest × (length l.items.items ≡ l._taken)
