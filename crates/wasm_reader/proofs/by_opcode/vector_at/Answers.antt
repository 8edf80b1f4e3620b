use Rattle.wasm_reader.proofs.ByOpcode.{vector_some, vector_none}
use Rattle.wasm_reader.proofs.by_opcode.vector_at.Goals as goal

pub returns-then-index-lt276-clause-some : goal.returns-then-index-lt276-clause-some
returns-then-index-lt276-clause-some c = vector_some c.args.number _ c.if-index-lt276.true

pub returns-then-index-lt276-clause-other : goal.returns-then-index-lt276-clause-other
returns-then-index-lt276-clause-other c = vector_none c.args.number _ c.if-index-lt276.true
