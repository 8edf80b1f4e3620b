use Rattle.wasm_base.proofs.Std.{false, arith}
use Rattle.wasm_base.proofs.NumberEncodings.{length-groups_encoding-le}
use Rattle.wasm_base.proofs.leb128.encoding_size.Goals as goal

pub returns-clause-bound : goal.returns-clause-bound
returns-clause-bound c = omega (arith, length-groups_encoding-le false 128 4 c.from.result (omega arith) (omega arith))
