use Rattle.wasm_sections.proofs.Common.{rules, arith, common_steps, two_bytes}
use Rattle.wasm_sections.proofs.function.TypeIndexEncode.encode.Goals as goal

pub returns-then-capacity-len-ge2-clause-appends : goal.returns-then-capacity-len-ge2-clause-appends
returns-then-capacity-len-ge2-clause-appends g c = record {
  ok = grind (arith, common_steps, two_bytes);
  err = search rules;
  was_encodable = search rules;
  too_long = search rules;
  spare = search rules;
  capacity = omega arith;
}
