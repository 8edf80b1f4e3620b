use Rattle.wasm_base.proofs.Words.{◌≡◌, length, padded_of, HasRead}
use Rattle.wasm_custom.proofs.counted.read_items.Given as goal

abbrev pub invariant-loop-taken : goal.invariant-loop-taken
invariant-loop-taken g l = HasRead g.K.ItemsAs.format (padded_of g.G.Grammar.grammar) g.K.ItemsAs.view l.initial.rest l.items.items l.rest × (length l.items.items ≡ l._taken)
