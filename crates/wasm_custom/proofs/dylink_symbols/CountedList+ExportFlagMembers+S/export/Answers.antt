use Rattle.wasm_base.proofs.Words.{refl, arith}
use Rattle.wasm_custom.proofs.dylink_symbols.CountedList+ExportFlagMembers+S.export.Goals as goal

pub add_record-requires : goal.add_record-requires
add_record-requires g c encodable = record {
  member = record { name = c.args.name.now; flags = c.args.flags };
  is = refl;
  encodable = record { name = (c.utf8.name, encodable.0); flags = omega (arith, c.ranges.flags.fits) };
}
