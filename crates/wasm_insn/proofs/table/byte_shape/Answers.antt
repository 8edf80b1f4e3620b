use Rattle.wasm_insn.proofs.Common.{arith, byte_place}
use Rattle.wasm_insn.proofs.table.byte_shape.Goals as goal

pub returns : goal.returns
returns c = rw c.from.ensures (byte_place c.args.byte _ (omega arith))
