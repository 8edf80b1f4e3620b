use Rattle.wasm_reader.proofs.ByOpcode.{aggregate_some, aggregate_none}
use Rattle.wasm_reader.proofs.by_opcode.aggregate_at.Goals as goal

pub returns-then-index-lt31-clause-some : goal.returns-then-index-lt31-clause-some
returns-then-index-lt31-clause-some c = aggregate_some c.args.number _ c.if-index-lt31.true

pub returns-then-index-lt31-clause-other : goal.returns-then-index-lt31-clause-other
returns-then-index-lt31-clause-other c = aggregate_none c.args.number _ c.if-index-lt31.true
