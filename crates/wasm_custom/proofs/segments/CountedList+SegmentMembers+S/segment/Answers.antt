use Rattle.wasm_base.proofs.Words.{refl, arith}
use Rattle.wasm_custom.proofs.segments.CountedList+SegmentMembers+S.segment.Goals as goal

pub add_record-requires : goal.add_record-requires
add_record-requires g c encodable = record {
  member = record { name = c.args.name.now; alignment = c.args.alignment; flags = c.args.flags };
  is = refl;
  encodable = record { name = (c.utf8.name, encodable.0); alignment = omega (arith, c.ranges.alignment.fits); flags = omega (arith, c.ranges.flags.fits) };
}
