use Rattle.wasm_reader.proofs.ByOpcode.{prefixed_numeric_none}
use Rattle.wasm_reader.proofs.by_opcode.prefixed_numeric_at.Goals as goal

pub returns-then-index-lt23-clause-other : goal.returns-then-index-lt23-clause-other
returns-then-index-lt23-clause-other c = prefixed_numeric_none c.args.number _ c.if-index-lt23.true
