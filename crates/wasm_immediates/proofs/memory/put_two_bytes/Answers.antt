use Rattle.wasm_immediates.proofs.Common.{arith, common_steps, one_byte}
use Rattle.wasm_immediates.proofs.memory.put_two_bytes.Goals as goal

pub returns-clause-items : goal.returns-clause-items
returns-clause-items g c = grind (arith, common_steps, one_byte)
