use Rattle.wasm_base.proofs.Words.{arith}
use Rattle.wasm_reader.proofs.ByOpcode.{numeric_some, numeric_beyond}
use Rattle.wasm_reader.proofs.by_opcode.numeric_at.Goals as goal

pub returns-then-index-lt197-clause-some : goal.returns-then-index-lt197-clause-some
returns-then-index-lt197-clause-some c = rw c.from-index.ensures (numeric_some c.args.byte _ (omega (arith, c.from-index.ensures, c.if-index-lt197.true)))

pub returns-else-index-lt197-clause-other : goal.returns-else-index-lt197-clause-other
returns-else-index-lt197-clause-other c = numeric_beyond c.args.byte (omega (arith, c.from-index.ensures, c.if-index-lt197.false))
