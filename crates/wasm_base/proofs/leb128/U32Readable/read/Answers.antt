use Rattle.wasm_base.proofs.DecodingSteps.{front_and_rest}
use Rattle.wasm_base.proofs.DecodeNumbers.{u32_byte}
use Rattle.wasm_base.proofs.leb128.U32Readable.read.Goals as goal

pub returns-then-b-lt128-clause-found : goal.returns-then-b-lt128-clause-found
returns-then-b-lt128-clause-found g c = u32_byte _ c.args.bytes.now _ _ _ (front_and_rest c.args.bytes.now c.in-len1-up.len_at_least) c.if-b-lt128.true c.from.ensures
