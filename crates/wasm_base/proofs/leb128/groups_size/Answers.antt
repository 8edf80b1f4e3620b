use Rattle.wasm_base.proofs.Std.{arith}
use Rattle.wasm_base.proofs.NumberEncodings.{length-groups_encoding-last, length-groups_encoding-more, length-groups_encoding-le}
use Rattle.wasm_base.proofs.leb128.groups_size.Goals as goal

pub overflow_add-size : goal.overflow_add-size
overflow_add-size c = omega (arith, length-groups_encoding-le c.args.negative c.args.limit 10 c.args.n (omega arith) (omega arith))

pub loop-rest-preserved : goal.loop-rest-preserved
loop-rest-preserved c = omega (arith, length-groups_encoding-more c.args.negative c.args.limit c.loop-rest.rest (omega arith) (omega arith))

pub returns : goal.returns
returns c = omega (arith, length-groups_encoding-last c.args.negative c.args.limit c.loop-rest.rest (omega arith))
