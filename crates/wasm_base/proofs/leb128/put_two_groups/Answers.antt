use Rattle.wasm_base.proofs.Std.{arith, common_steps}
use Rattle.wasm_base.proofs.NumberEncodings.{two_groups}
use Rattle.wasm_base.proofs.leb128.put_two_groups.Goals as goal

pub returns-clause-items : goal.returns-clause-items
returns-clause-items g c = grind (arith, common_steps, two_groups)
