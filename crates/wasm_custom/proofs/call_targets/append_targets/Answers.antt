use Rattle.wasm_base.proofs.Words.{[], arith, rules, length-append, ap, length, common_steps}
use Rattle.wasm_base.proofs.Members.{flat_map-take_more, length-flat_map-take}
use Rattle.wasm_custom.specs.{target_encoding, target_view}
use Rattle.wasm_custom.proofs.MetadataLaws.{get_or_own}
use Rattle.wasm_custom.proofs.call_targets.append_targets.Goals as goal

pub returns-in-Err : goal.returns-in-Err
returns-in-Err g c = record {
  ok = search rules;
  err = grind (arith, common_steps);
  was_encodable = search rules;
  too_long = λ encodable. c.in-Err.ensures.appends.too_long tt;
  spare = λ encodable spare.
      c.in-Err.ensures.appends.spare
      tt
      (omega (
        arith,
        spare,
        simp length-append at (ap length c.loop-target.invariant.encoding),
        length-flat_map-take (λ t. target_encoding (target_view t)) _ _ _ c.loop-target-test.true (get_or_own c.args.targets.now c.loop-target.target-index (record { function_index = 0; percent = 0 }) c.loop-target-test.true),
      ));
  capacity = omega (arith, c.in-Err.ensures.appends.capacity);
}

pub loop-target-preserved : goal.loop-target-preserved
loop-target-preserved g c = record {
  start = c.loop-target.invariant.start;
  encoding = flat_map-take_more (λ t. target_encoding (target_view t)) _ _ _ _ [] _ _ c.loop-target-test.true (get_or_own c.args.targets.now c.loop-target.target-index (record { function_index = 0; percent = 0 }) c.loop-target-test.true) c.loop-target.invariant.encoding c.in_default.ensures.appends.ok;
  capacity = omega (arith, c.in_default.ensures.appends.capacity);
}
