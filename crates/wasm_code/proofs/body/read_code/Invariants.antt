use Rattle.wasm_code.proofs.Common.{padded_of, length, HasMembers, instruction, table, plain_view}
use Rattle.wasm_code.proofs.body.read_code.Given as goal

abbrev pub invariant-loop-rest : goal.invariant-loop-rest
invariant-loop-rest g l = HasMembers (instruction table) (padded_of g.G.Grammar.grammar) plain_view l.bytes l.items.items l.rest

abbrev pub decreases-loop-rest : goal.decreases-loop-rest
decreases-loop-rest g l = length l.rest
