use Rattle.wasm_reader.proofs.DecodeModules.{last_same}
use Rattle.wasm_reader.proofs.sections.common_length.Goals as goal

pub returns-else-bytes-count-clause-differs : goal.returns-else-bytes-count-clause-differs
returns-else-bytes-count-clause-differs c = λ l m e. c.if-bytes-count.false (last_same c.args.bytes.now c.args.other.now c.loop-count.count _ e)
