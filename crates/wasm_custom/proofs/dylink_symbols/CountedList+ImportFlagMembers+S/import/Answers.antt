use Rattle.wasm_base.proofs.Words.{refl, arith}
use Rattle.wasm_custom.proofs.dylink_symbols.CountedList+ImportFlagMembers+S.import.Goals as goal

pub add_record-requires : goal.add_record-requires
add_record-requires g c encodable = record {
  member = record { module_name = c.args.module_name.now; name = c.args.name.now; flags = c.args.flags };
  is = refl;
  encodable = record { module_name = (c.utf8.module_name, encodable.0); name = (c.utf8.name, encodable.1.0); flags = omega (arith, c.ranges.flags.fits) };
}
