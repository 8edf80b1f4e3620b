use Rattle.wasm_custom.proofs.Common.{rules, arith, common_steps, one_group}
use Rattle.wasm_custom.proofs.names.IndexedNameEncode.encode.Goals as goal

pub returns-clause-appends : goal.returns-clause-appends
returns-clause-appends g c = record {
  ok = grind (arith, common_steps, one_group);
  err = search rules;
  was_encodable = omega arith;
  too_long = search rules;
  spare = search rules;
  capacity = omega arith;
}
