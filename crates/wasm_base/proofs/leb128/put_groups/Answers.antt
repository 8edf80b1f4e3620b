use Rattle.wasm_base.proofs.Std.{arith, common_steps}
use Rattle.wasm_base.proofs.NumberEncodings.{groups_encoding-last, groups_encoding-more, length-groups_encoding-last, length-groups_encoding-more, length-groups_encoding-positive}
use Rattle.wasm_base.proofs.leb128.put_groups.Goals as goal

pub push_reserved-requires : goal.push_reserved-requires
push_reserved-requires g c = omega (arith, length-groups_encoding-positive c.args.negative c.args.limit c.loop-rest.rest (omega arith))

pub loop-rest-preserved : goal.loop-rest-preserved
loop-rest-preserved g c = record {
  encoding = grind (arith, common_steps, groups_encoding-more);
  spare = omega (arith, length-groups_encoding-more c.args.negative c.args.limit c.loop-rest.rest (omega arith) (omega arith));
  capacity = omega arith;
}

pub push_reserved-requires-2 : goal.push_reserved-requires-2
push_reserved-requires-2 g c = omega (arith, length-groups_encoding-last c.args.negative c.args.limit c.loop-rest.rest (omega arith))

pub returns-clause-items : goal.returns-clause-items
returns-clause-items g c = grind (arith, common_steps, groups_encoding-last)
