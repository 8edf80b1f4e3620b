use Rattle.wasm_code.proofs.Common.{padded_of, length, such, instruction, table, plain_view, IsNoEnd, HasEnded}
use Rattle.wasm_code.proofs.expression.ExpressionReadable.read.Given as goal

abbrev pub invariant-loop-rest : goal.invariant-loop-rest
invariant-loop-rest g l = HasEnded 0x0B (such IsNoEnd (instruction table)) (padded_of g.G.Grammar.grammar) plain_view l.bytes l.items.items l.rest

abbrev pub decreases-loop-rest : goal.decreases-loop-rest
decreases-loop-rest g l = length l.rest
