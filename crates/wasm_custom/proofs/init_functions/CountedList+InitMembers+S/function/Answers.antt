use Rattle.wasm_base.proofs.Words.{refl, arith}
use Rattle.wasm_custom.proofs.init_functions.CountedList+InitMembers+S.function.Goals as goal

pub add_record-requires : goal.add_record-requires
add_record-requires g c encodable = record {
  member = record { priority = c.args.priority; symbol = c.args.symbol };
  is = refl;
  encodable = record { priority = omega (arith, c.ranges.priority.fits); symbol = omega (arith, c.ranges.symbol.fits) };
}
