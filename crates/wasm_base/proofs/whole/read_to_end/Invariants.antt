use Rattle.wasm_base.specs.{padded_of}
use Rattle.wasm_base.proofs.Std.{length}
use Rattle.wasm_base.proofs.DecodeWhole.{HasMembers}
use Rattle.wasm_base.proofs.whole.read_to_end.Given as goal

abbrev pub invariant-loop-rest : goal.invariant-loop-rest
invariant-loop-rest g l = HasMembers g.T.Layout.format (padded_of g.G.Grammar.grammar) g.T.Layout.view l.bytes l.items.items l.rest

abbrev pub decreases-loop-rest : goal.decreases-loop-rest
decreases-loop-rest g l = length l.rest
