use Rattle.wasm_base.proofs.Std.{arith, rules, length-append, ap, length, common_steps}
use Rattle.wasm_base.proofs.Members.{flat_map-take_more, length-flat_map-take, All-at, All-take_more}
use Rattle.wasm_base.proofs.vectors.RefSliceEncode.encode.Goals as goal

pub returns-in-Err-clause-appends : goal.returns-in-Err-clause-appends
returns-in-Err-clause-appends g c = record {
  ok = search rules;
  err = grind (arith, common_steps);
  was_encodable = search rules;
  too_long = λ encodable. c.in-Err.ensures.appends.too_long (All-at g.T.Encode.encodable _ _ _ c.loop-item-test.true c.item-item.is encodable.members);
  spare = λ encodable spare.
      c.in-Err.ensures.appends.spare
      (All-at g.T.Encode.encodable _ _ _ c.loop-item-test.true c.item-item.is encodable.members)
      (omega (
        arith,
        simp length-append at spare,
        simp length-append at (ap length c.loop-item.invariant.encoding),
        length-flat_map-take g.T.Encode.encoding _ _ _ c.loop-item-test.true c.item-item.is,
      ));
  capacity = omega (arith, c.in-Err.ensures.appends.capacity);
}

pub loop-item-preserved : goal.loop-item-preserved
loop-item-preserved g c = record {
  start = c.loop-item.invariant.start;
  encoding = flat_map-take_more g.T.Encode.encoding _ _ _ _ _ _ _ c.loop-item-test.true c.item-item.is c.loop-item.invariant.encoding c.in_default.ensures.appends.ok;
  encodable = All-take_more g.T.Encode.encodable _ _ _ c.loop-item-test.true c.item-item.is c.loop-item.invariant.encodable c.in_default.ensures.appends.was_encodable;
  capacity = omega (arith, c.in_default.ensures.appends.capacity);
}
